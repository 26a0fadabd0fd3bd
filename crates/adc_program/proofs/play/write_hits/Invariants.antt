use Rattle.std.proofs.Common.{◌≡◌, map, take}
use Rattle.std.specs.Io.KnownBytes.{Appends}
use Rattle.adc_ports.specs.States.{OnlyPuts}
use Rattle.best_k.specs.Least.{key_of}
use Rattle.play_script.specs.Play.{hits}
use Rattle.adc_program.specs.Ends.{text_of}
use Rattle.adc_program.proofs.play.write_hits.Given as goal

-- the lines of the hits so far
abbrev pub invariant-loop-pair : goal.invariant-loop-pair
invariant-loop-pair g l = record {
  puts : OnlyPuts (g.K.Sink.state l.initial.out) (g.K.Sink.state l.out);
  counts : (g.K.Sink.state l.out).faults ≡ (g.K.Sink.state l.initial.out).faults;
  written : Appends (g.K.Sink.state l.initial.out).written (g.K.Sink.state l.out).written (text_of (hits (map key_of (take l.pair-index l.hits))));
}
