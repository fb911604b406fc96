-- Between two rows: what was read spells the items so far, and what is left is left.
use Rattle.std.proofs.Common.{◌≡◌, ◌≢◌, ℕ, ◌+◌, List, [], ◌∷◌, ◌++◌, length, Option, Some, None, Bool, true, false, Result, Ok, Err, append_assoc, refl, sym, ap, ◌∙◌, arith}
use Rattle.std.proofs.lemmas.List.{length-append}
use Rattle.std.specs.Prelude.{IfSome}
use Rattle.csv.specs.Reading.{expected_len}
use Rattle.csv.specs.declared.reader.Reader.{Reader}
use Rattle.ddt_register.specs.declared.csv_row.Row.{Row}
use Rattle.ddt_register.specs.declared.fault.ReadFault.{ReadFault}
use Rattle.ddt_register.specs.declared.fault.ReadFault.TheVariants as Fault
use Rattle.ddt_register.specs.Spelled.{Lists, no_items, items_of, joined, row_in, rows_in, columns_in, spelled, unless_too_many, UnlessMemory, Gives}
use Rattle.ddt_register.specs.Left.{IsReading, IsLeft, TakesRecord}
use Rattle.ddt_register.proofs.SpelledLemmas.{rows_in-done, rows_in-last, rows_in-fault, row_in-length}

-- the reader stands before this row
pub record IsMidway {R : Type 0} (remaining : R → Option (List ℕ)) (first reader : Reader R) (row : ℕ) (items : Lists) : Type 0 where
  pub reading : IsReading reader
  pub columns : expected_len reader ≡ Some 4
  pub done : List (List (List ℕ))
  pub spelled : rows_in 1 done ≡ Ok items
  pub count : 1 + length done ≡ row
  pub rest : (all : List (List (List ℕ))) → IsLeft remaining first all → (left : List (List (List ℕ))) × IsLeft remaining reader left × (all ≡ done ++ left)

pub IsMidway-start : {R : Type 0} (remaining : R → Option (List ℕ)) (reader : Reader R) → IsReading reader → expected_len reader ≡ Some 4 → IsMidway remaining reader reader 1 no_items
IsMidway-start remaining reader set four = record { reading = set; columns = four; done = []; spelled = refl; count = refl; rest = λ all l. (all, l, refl) }

pub IsMidway-next : {R : Type 0} (remaining : R → Option (List ℕ)) (first old new : Reader R) (row : ℕ) (items : Lists) (fields : List (List ℕ)) (item : Row)
    → IsMidway remaining first old row items
    → ((left : List (List (List ℕ))) → IsLeft remaining old left → TakesRecord remaining old new row fields left (Ok true))
    → IsReading new → expected_len new ≡ Some 4 → row_in row fields ≡ Ok item
    → IsMidway remaining first new (row + 1) (joined items (items_of item))
IsMidway-next remaining first old new row items fields item m takes set four e = record {
  reading = set;
  columns = four;
  done = m.done ++ fields ∷ [];
  spelled = rows_in-last 1 m.done items fields item m.spelled (rw m.count e);
  count = rw (length-append m.done (fields ∷ [])) (let c = m.count in omega arith);
  rest = λ all l.
      let old_left = m.rest all l in
      let t = takes old_left.0 old_left.1 in
      (t.0, t.2, old_left.2 ∙ ap (λ (x : List (List (List ℕ))). m.done ++ x) t.1 ∙ sym (append_assoc m.done (fields ∷ []) t.0));
}

-- no row is left
pub IsMidway-end : {R : Type 0} (remaining : R → Option (List ℕ)) (first old : Reader R) (row : ℕ) (items : Lists)
    → IsMidway remaining first old row items
    → ((left : List (List (List ℕ))) → IsLeft remaining old left → left ≡ [])
    → (all : List (List (List ℕ))) → IsLeft remaining first all → rows_in 1 all ≡ Ok items
IsMidway-end remaining first old row items m none all l =
    let left = m.rest all l in
    ap (rows_in 1) (left.2 ∙ ap (λ (x : List (List (List ℕ))). m.done ++ x) (none left.0 left.1)) ∙ rows_in-done 1 m.done items m.spelled

-- the next row is one with a fault
at_fault : {R : Type 0} (remaining : R → Option (List ℕ)) (first old : Reader R) (row : ℕ) (items : Lists) (fault : ReadFault)
    → IsMidway remaining first old row items
    → ((left : List (List (List ℕ))) → IsLeft remaining old left → (fields : List (List ℕ)) × (rest : List (List (List ℕ))) × (left ≡ fields ∷ rest) × (row_in row fields ≡ Err fault))
    → (all : List (List (List ℕ))) → IsLeft remaining first all → rows_in 1 all ≡ Err fault
at_fault remaining first old row items fault m next all l =
    let left = m.rest all l in
    let n = next left.0 left.1 in
    ap (rows_in 1) (left.2 ∙ ap (λ (x : List (List (List ℕ))). m.done ++ x) n.2) ∙ rows_in-fault 1 m.done n.1 items n.0 fault m.spelled (rw m.count n.3)

pub IsMidway-fault : {R : Type 0} (remaining : R → Option (List ℕ)) (first old new : Reader R) (row : ℕ) (items : Lists) (fields : List (List ℕ)) (fault : ReadFault)
    → IsMidway remaining first old row items
    → ((left : List (List (List ℕ))) → IsLeft remaining old left → TakesRecord remaining old new row fields left (Ok true))
    → row_in row fields ≡ Err fault
    → (all : List (List (List ℕ))) → IsLeft remaining first all → rows_in 1 all ≡ Err fault
IsMidway-fault remaining first old new row items fields fault m takes e =
    at_fault remaining first old row items fault m (λ left l. let t = takes left l in (fields, t.0, t.1, e))

-- a fault that is spelled is given
pub Gives-fault : (fault : ReadFault) (meant : Result Lists ReadFault) → meant ≡ Err fault → Gives (Err fault) meant
Gives-fault (Fault.Csv row) meant e = e
Gives-fault Fault.Columns meant e = e
Gives-fault (Fault.Kind row) meant e = e
Gives-fault (Fault.Prefix row) meant e = e
Gives-fault (Fault.Name row) meant e = e
Gives-fault (Fault.Address row) meant e = e
Gives-fault Fault.TooMany meant e = e
Gives-fault Fault.Read meant e = tt
Gives-fault Fault.Memory meant e = tt

-- what a read that refused says of the records
abbrev Refuses : {R : Type 0} → (R → Option (List ℕ)) → Reader R → ℕ → ReadFault → Type 0
Refuses remaining old row fault = (left : List (List (List ℕ))) → IsLeft remaining old left
    → (fault ≡ Fault.Csv row) × (len : ℕ) × (expected_len old ≡ Some len)
    × (other : List (List ℕ)) × (rest : List (List (List ℕ))) × (left ≡ other ∷ rest) × (length other ≢ len)

pub same_len : (len : ℕ) (expected : Option ℕ) → expected ≡ Some 4 → expected ≡ Some len → len ≡ 4
same_len len expected e f = let s : Some 4 ≡ Some len = sym e ∙ f in cc

at_other_length : {R : Type 0} (remaining : R → Option (List ℕ)) (first old : Reader R) (row : ℕ) (items : Lists) (fault : ReadFault)
    → IsMidway remaining first old row items → Refuses remaining old row fault → (all : List (List (List ℕ))) → IsLeft remaining first all → rows_in 1 all ≡ Err fault
at_other_length remaining first old row items fault m refuses =
    at_fault remaining first old row items fault m (λ left l.
    let t = refuses left l in
    let four : t.1 ≡ 4 = same_len t.1 (expected_len old) m.columns t.2 in
    (t.3, t.4, t.5, row_in-length row t.3 (λ e. t.6 (e ∙ sym four)) ∙ ap Err (sym t.0)))

pub IsMidway-refused : {R : Type 0} (remaining : R → Option (List ℕ)) (first old new : Reader R) (row : ℕ) (items : Lists) (fields : List (List ℕ)) (fault : ReadFault)
    → IsMidway remaining first old row items
    → ((left : List (List (List ℕ))) → IsLeft remaining old left → TakesRecord remaining old new row fields left (Err fault))
    → (all : List (List (List ℕ))) → IsLeft remaining first all → Gives (Err fault) (rows_in 1 all)
IsMidway-refused remaining first old new row items fields (Fault.Csv n) m takes = at_other_length remaining first old row items (Fault.Csv n) m takes
IsMidway-refused remaining first old new row items fields Fault.Columns m takes = at_other_length remaining first old row items Fault.Columns m takes
IsMidway-refused remaining first old new row items fields (Fault.Kind n) m takes = at_other_length remaining first old row items (Fault.Kind n) m takes
IsMidway-refused remaining first old new row items fields (Fault.Prefix n) m takes = at_other_length remaining first old row items (Fault.Prefix n) m takes
IsMidway-refused remaining first old new row items fields (Fault.Name n) m takes = at_other_length remaining first old row items (Fault.Name n) m takes
IsMidway-refused remaining first old new row items fields (Fault.Address n) m takes = at_other_length remaining first old row items (Fault.Address n) m takes
IsMidway-refused remaining first old new row items fields Fault.TooMany m takes = at_other_length remaining first old row items Fault.TooMany m takes
IsMidway-refused remaining first old new row items fields Fault.Read m takes = λ all l. tt
IsMidway-refused remaining first old new row items fields Fault.Memory m takes = λ all l. tt

-- a row's fault is given, unless memory ran out
pub Gives-row : (fault : ReadFault) (row : Result Row ReadFault) (meant : Result Lists ReadFault) → UnlessMemory (Err fault) row → (row ≡ Err fault → meant ≡ Err fault) → Gives (Err fault) meant
Gives-row (Fault.Csv n) row meant h next = next h
Gives-row Fault.Columns row meant h next = next h
Gives-row (Fault.Kind n) row meant h next = next h
Gives-row (Fault.Prefix n) row meant h next = next h
Gives-row (Fault.Name n) row meant h next = next h
Gives-row (Fault.Address n) row meant h next = next h
Gives-row Fault.TooMany row meant h next = next h
Gives-row Fault.Read row meant h next = tt
Gives-row Fault.Memory row meant h next = tt

-- a record that was read has as many fields as the columns
pub still_four : (old new : Option ℕ) → old ≡ Some 4 → IfSome old (λ len. new ≡ Some len) → new ≡ Some 4
still_four old new e h = rw e at h

-- ---- past the last row

pub past_last : (past : Bool) (fault : ReadFault) → unless_too_many past ≡ Err fault → (past ≡ true) × (fault ≡ Fault.TooMany)
past_last true fault e = (refl, cc e)
past_last false fault e = cc e

pub at_last : (past : Bool) → unless_too_many past ≡ Ok tt → past ≡ false
at_last true e = cc e
at_last false e = refl

-- ---- the first record

first_length : (left : List (List (List ℕ))) (expected : Option ℕ) (meant : Result Lists ReadFault) (fault : ReadFault) → expected ≡ None
    → (fault ≡ Fault.Csv 0) × (len : ℕ) × (expected ≡ Some len) × (other : List (List ℕ)) × (rest : List (List (List ℕ))) × (left ≡ other ∷ rest) × (length other ≢ len)
    → meant ≡ Err fault
first_length left expected meant fault e h = let none : None ≡ Some h.1 = sym e ∙ h.2 in cc

-- no length is expected of the first record, so that it isn't refused for it
pub first-refused : {R : Type 0} (remaining : R → Option (List ℕ)) (old new : Reader R) (fields : List (List ℕ)) (left : List (List (List ℕ))) (fault : ReadFault)
    → expected_len old ≡ None → TakesRecord remaining old new 0 fields left (Err fault) → Gives (Err fault) (spelled left)
first-refused remaining old new fields left (Fault.Csv n) e t = first_length left (expected_len old) (spelled left) (Fault.Csv n) e t
first-refused remaining old new fields left Fault.Columns e t = first_length left (expected_len old) (spelled left) Fault.Columns e t
first-refused remaining old new fields left (Fault.Kind n) e t = first_length left (expected_len old) (spelled left) (Fault.Kind n) e t
first-refused remaining old new fields left (Fault.Prefix n) e t = first_length left (expected_len old) (spelled left) (Fault.Prefix n) e t
first-refused remaining old new fields left (Fault.Name n) e t = first_length left (expected_len old) (spelled left) (Fault.Name n) e t
first-refused remaining old new fields left (Fault.Address n) e t = first_length left (expected_len old) (spelled left) (Fault.Address n) e t
first-refused remaining old new fields left Fault.TooMany e t = first_length left (expected_len old) (spelled left) Fault.TooMany e t
first-refused remaining old new fields left Fault.Read e t = tt
first-refused remaining old new fields left Fault.Memory e t = tt

columns_refused : (columns : List (List ℕ)) (rows : List (List (List ℕ))) (fault : ReadFault) → columns_in columns ≡ Err fault → spelled (columns ∷ rows) ≡ Err fault
columns_refused columns rows fault e = rw e refl

pub other_columns : (left rest : List (List (List ℕ))) (fields : List (List ℕ)) (fault : ReadFault) → left ≡ fields ∷ rest → columns_in fields ≡ Err fault → Gives (Err fault) (spelled left)
other_columns left rest fields fault e c = Gives-fault fault (spelled left) (ap spelled e ∙ columns_refused fields rest fault c)

pub below_columns : (left rest : List (List (List ℕ))) (fields : List (List ℕ)) → left ≡ fields ∷ rest → columns_in fields ≡ Ok tt → spelled left ≡ rows_in 1 rest
below_columns left rest fields e c = ap spelled e ∙ rw c refl
