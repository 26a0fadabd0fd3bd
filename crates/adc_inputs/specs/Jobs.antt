-- A job of the code as the job that it stands for.
use Rattle.adc_inputs.specs.Words as words
use Rattle.adc_inputs.specs.declared.job.Job.{Job}
use Rattle.adc_inputs.specs.declared.job.Job.TheVariants.{Play, Sample, Info, Build, Upgrade, Search, Radius, Recall, Residual, Exact, Rerank, Allowed, Sessions}

abbrev pub job_seen : Job → words.Job
job_seen (Play job) = words.Play job.book.now job.base.now job.queries.now job.script.now
job_seen (Sample job) = words.Sample job.start job.rows
job_seen (Info index) = words.Info index.now
job_seen (Build job) = words.Build job.book.now job.base.now job.index.now
job_seen (Upgrade job) = words.Upgrade job.old.now job.new.now
job_seen (Search job) = words.Search job.index.now job.queries.now job.k job.wanted job.out.now
job_seen (Radius job) = words.Radius job.index.now job.queries.now job.radius job.wanted
job_seen (Recall job) = words.Recall job.found.now job.truth.now job.k
job_seen (Residual job) = words.Residual job.play.book.now job.play.base.now job.play.queries.now job.play.script.now job.cache
job_seen (Exact job) = words.Exact job.base.now job.queries.now job.k job.out.now
job_seen (Rerank job) = words.Rerank job.index.now job.base.now job.queries.now job.found job.k job.wanted job.out.now
job_seen (Allowed job) = words.Allowed job.index.now job.queries.now job.k job.wanted job.allow.now job.out.now
job_seen (Sessions job) = words.Sessions job.book.now job.base.now job.queries.now job.script.now
