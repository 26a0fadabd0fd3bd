-- What reading answers if a call below it stopped.
use Rattle.adc_ports.specs.declared.Halt.{Halt}
use Rattle.adc_ports.specs.declared.Halt.TheVariants as halt
use Rattle.codebook_core.specs.declared.error.BookError.{BookError}
use Rattle.codebook_core.specs.declared.error.BookError.TheVariants as book
use Rattle.index_file.specs.declared.index.IndexError.{IndexError}
use Rattle.index_file.specs.declared.index.IndexError.TheVariants as error

abbrev pub stops_reading : Halt → IndexError
stops_reading halt.Failed = error.ReadFault
stops_reading halt.Memory = error.Memory

abbrev pub of_book : BookError → IndexError
of_book (book.Malformed at) = error.Malformed at
of_book (book.Limit what value) = error.Limit what value
of_book book.Memory = error.Memory
