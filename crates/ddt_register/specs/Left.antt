-- Which records a reader of CSV has left to read.
use Rattle.std.specs.Prelude.{ℕ, ◌<◌, ◌≡◌, ◌≢◌, ◌⊎◌, Bool, true, false, List, [], ◌∷◌, length, Option, Some, Result, Ok, Err, ⊤}
use Rattle.csv.specs.Reading.{Ready, default_config, records_from, source_of, reader_config, reader_state, reader_trim, is_flexible, expected_len}
use Rattle.csv.specs.declared.error.ErrorKind.{ErrorKind}
use Rattle.csv.specs.declared.error.ErrorKind.TheVariants as kind
use Rattle.csv.specs.declared.parser.State.{State}
use Rattle.csv.specs.declared.parser.State.TheVariants as st
use Rattle.csv.specs.declared.reader.Reader.{Reader}
use Rattle.csv.specs.declared.reader.Trim.TheVariants as trim
use Rattle.ddt_register.specs.declared.fault.ReadFault.{ReadFault}
use Rattle.ddt_register.specs.declared.fault.ReadFault.TheVariants as Fault

-- a text gives at most n records from a state: it is shorter, or it is at its end
abbrev pub AtMost : ℕ → State → List ℕ → Type 0
AtMost n state bytes = (length bytes < n) ⊎ ((bytes ≡ []) × (state ≡ st.StartRecord))

-- the reader reads records of one length with csv's defaults, and the first record as any other
pub record IsReading {R : Type 0} (reader : Reader R) : Type 0 where
  pub config : reader_config reader ≡ default_config
  pub trim : reader_trim reader ≡ trim.None
  pub fixed : is_flexible reader ≡ false
  pub ready : Ready reader

-- these are the records that the reader's bytes give
pub record IsLeft {R : Type 0} (remaining : R → Option (List ℕ)) (reader : Reader R) (left : List (List (List ℕ))) :
    Type 0 where
  pub most : ℕ
  pub bytes : List ℕ
  pub source : source_of remaining reader ≡ Some bytes
  pub enough : AtMost most (reader_state reader) bytes
  pub records : left ≡ records_from default_config most (reader_state reader) bytes

-- What a read does to the records that are left: it takes the first, or there was none, or the first is of another
-- length than those before it.
abbrev pub TakesRecord : {R : Type 0} → (R → Option (List ℕ)) → Reader R → Reader R → ℕ → List (List ℕ)
    → List (List (List ℕ)) → Result Bool ReadFault → Type 0
TakesRecord remaining old new row fields left (Ok true) = (rest : List (List (List ℕ))) × (left ≡ fields ∷ rest)
    × IsLeft remaining new rest
TakesRecord remaining old new row fields left (Ok false) = left ≡ []
TakesRecord remaining old new row fields left (Err Fault.Read) = ⊤
TakesRecord remaining old new row fields left (Err Fault.Memory) = ⊤
TakesRecord remaining old new row fields left (Err fault) =
    (fault ≡ Fault.Csv row) × (len : ℕ) × (expected_len old ≡ Some len)
    × (other : List (List ℕ)) × (rest : List (List (List ℕ))) × (left ≡ other ∷ rest) × (length other ≢ len)

-- What an error of csv is told as in this row: a failed reader and no memory as themselves, and all else as a
-- fault of the row, which for records of bytes is another number of fields.
abbrev pub csv_fault : ℕ → ErrorKind → ReadFault
csv_fault row (kind.Io error) = Fault.Read
csv_fault row kind.OutOfMemory = Fault.Memory
csv_fault row (kind.UnequalLengths position first len) = Fault.Csv row
csv_fault row (kind.Utf8 position error) = Fault.Csv row
csv_fault row (kind.Serialize text) = Fault.Csv row
csv_fault row (kind.Deserialize position error) = Fault.Csv row

-- the two faults behind which nothing can be read
abbrev pub stops : ReadFault → Bool
stops Fault.Read = true
stops Fault.Memory = true
stops fault = false
