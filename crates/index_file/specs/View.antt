-- What an index stands for, and what reading it answers.
use Rattle.std.specs.Prelude.{◌≡◌, ◌*◌, [], length, Option, Some, None, Result, Ok, Err}
use Rattle.adc_ports.specs.Reading.{Fault}
use Rattle.adc_ports.specs.Reading as read
use Rattle.book_model.specs.Book.{Book}
use Rattle.cell_store.specs.State.{Store, live_rows}
use Rattle.index_file.specs.Reading.{Indexed}
use Rattle.index_file.specs.declared.index.AnyIndex.{AnyIndex}
use Rattle.index_file.specs.declared.index.AnyIndex.TheVariants.{F4444, F555, F664, F88}
use Rattle.index_file.specs.declared.index.IndexError.{IndexError}
use Rattle.index_file.specs.declared.index.IndexError.TheVariants as error

-- the book and the store of an index of any shape
abbrev pub book_of : AnyIndex → Book
book_of (F4444 index) = index.book
book_of (F555 index) = index.book
book_of (F664 index) = index.book
book_of (F88 index) = index.book

abbrev pub store_of : AnyIndex → Store
store_of (F4444 index) = index.store
store_of (F555 index) = index.store
store_of (F664 index) = index.store
store_of (F88 index) = index.store

-- its book and its rows
abbrev pub view_index : AnyIndex → Indexed
view_index index = record { book = book_of index; rows = live_rows (store_of index) }

-- the store is as after as many inserts, by the sizes of the book
pub record IsFresh (book : Book) (store : Store) : Type 0 where
  pub g : store.g ≡ book.g
  pub cells : store.cells ≡ book.k0 * book.k1
  pub most : store.most ≡ 4194304
  pub stamp : store.stamp ≡ length (live_rows store)
  pub pins : store.pins ≡ []

-- a refusal is the file's first fault, or the file is not there, unless a call on the shelf stopped
abbrev pub Refuses : {A : Type 0} → IndexError → Option (Result A Fault) → Type 0
Refuses error.Missing outcome = outcome ≡ None
Refuses (error.Malformed at) outcome = outcome ≡ Some (Err (read.Malformed at))
Refuses (error.Limit what value) outcome = outcome ≡ Some (Err (read.Limit what value))
Refuses error.ReadFault outcome = Unit {0}
Refuses error.Memory outcome = Unit {0}

-- what was read is what the file holds
abbrev pub Answers : Result AnyIndex IndexError → Option (Result Indexed Fault) → Type 0
Answers (Ok index) outcome = outcome ≡ Some (Ok (view_index index))
Answers (Err e) outcome = Refuses e outcome

-- an answer of reading is what there is to find
abbrev pub Finds : {X A : Type 0} → (X → A) → Result X IndexError → Result A Fault → Type 0
Finds view (Ok x) outcome = outcome ≡ Ok (view x)
Finds view (Err e) outcome = Refuses e (Some outcome)
