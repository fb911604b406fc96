-- The text of records, and what is done row by row to write it.
use Rattle.std.specs.Prelude.{ℕ, ◌≡◌, ◌≢◌, ⊤, Bool, false, List, [], ◌∷◌, ◌++◌, Option, Some, None, Vec}
use Rattle.std.specs.List.{flat_map}
use Rattle.csv.specs.Writing.{default_writer, row_text, writer_setup, fields_written, has_written, writer_under, writer_pending}
use Rattle.csv.specs.declared.writer.Writer.{Writer}
use Rattle.ddt_register.specs.declared.csv_row.Row.{Row}
use Rattle.ddt_register.specs.Spelled.{Lists, items_of, joined}
use Rattle.ddt_deploy.specs.declared.loopback.csv_text.Left.{Left}
use Rattle.ddt_deploy.specs.Loopback.Records.{row_fields, row_number}

-- the text of some records, as csv writes them with its defaults
abbrev pub text_of : List (List (List ℕ)) → List ℕ
text_of records = flat_map (row_text default_writer) records

-- a writer that begins a record, with csv's defaults
pub record IsFresh {W : Type 0} (w : Writer W) : Type 0 where
  pub setup : writer_setup w ≡ default_writer
  pub fields : fields_written w ≡ 0
  pub written : has_written w ≡ false

-- what was written to a vector, with what is still kept back
abbrev pub text_so_far : {A : Type 0} → Writer (Vec ℕ A) → List ℕ
text_so_far w = (writer_under w).items ++ writer_pending w

-- the items that are left, as the lists that they are in
abbrev pub left_of : Left → Lists
left_of l = record { zones = l.zones.now; sites = l.sites.now; groups = l.groups.now }

-- the first item of a list, if there is one, doesn't stand in this row
abbrev pub IsNotFirst : {A : Type 0} → (A → ℕ) → ℕ → List A → Type 0
IsNotFirst row_of n [] = ⊤
IsNotFirst row_of n (x ∷ xs) = row_of x ≢ n

-- the item of this row is taken from the items that are left, and its fields are given; or no first item stands there
abbrev pub TakesItem : ℕ → Lists → Lists → Option (List (List ℕ)) → Type 0
TakesItem n before after None = (after ≡ before) × IsNotFirst (λ z. z.row) n before.zones
    × IsNotFirst (λ s. s.row) n before.sites × IsNotFirst (λ g. g.row) n before.groups
TakesItem n before after (Some fields) = (row : Row) × (fields ≡ row_fields row) × (row_number row ≡ n)
    × (before ≡ joined (items_of row) after)
