-- The locators of a field, part after part.
use Rattle.std.proofs.Common.{◌≡◌, List, [], ◌∷◌, ◌++◌, length, ℕ, zero, suc, Bool, true, false, ◌||◌, nat_eq, Option, Some, None, Bor, Result, Ok, Err, refl, sym, ap, ◌∙◌, append_assoc, arith}
use Rattle.std.specs.List.{All, list_any}
use Rattle.std.proofs.lemmas.List.Splits.{slice_split_none}
use Rattle.std.proofs.lemmas.List.{append-nil}
use Rattle.std.proofs.lemmas.Iterator.{YieldsList}
use Rattle.std.specs.Iterator.{AlwaysYields}
use Rattle.ddt_path.specs.declared.locator.Locator.{Locator}
use Rattle.ddt_text.specs.FirstFault.{locator_in}
use Rattle.ddt_path.specs.Steps.{◌>>=◌}
use Rattle.ddt_register.specs.declared.fault.ReadFault.{ReadFault}
use Rattle.ddt_register.specs.declared.fault.ReadFault.TheVariants as Fault
use Rattle.ddt_register.specs.Spelled.{field_of, each_locator, locators_in, UnlessMemory}

-- what one call of `next` says of the list that an iterator has left
ended : {S A B : Type 0} (steps : S → Option A → S → Type 0) (v : A → B) (left : List B) (old new : S) → AlwaysYields steps v old left → steps old None new → left ≡ []
ended steps v [] old new h s = refl
ended steps v (y ∷ ys) old new h s = absurd (h.0 new s)

went : {S A B : Type 0} (steps : S → Option A → S → Type 0) (v : A → B) (left : List B) (old new : S) (x : A) → AlwaysYields steps v old left → steps old (Some x) new → (ys : List B) × (left ≡ v x ∷ ys) × AlwaysYields steps v new ys
went steps v [] old new x h s = absurd (h x new s)
went steps v (y ∷ ys) old new x h s = (ys, ap (λ w. w ∷ ys) (sym (h.1 x new s).0), (h.1 x new s).1)

-- some locators, and then those of what is left
abbrev pub onto : List Locator → Result (List Locator) ReadFault → Result (List Locator) ReadFault
onto locators rest = rest >>= λ more. Ok (locators ++ more)

onto-cons : (locators : List Locator) (a : Locator) (rest : Result (List Locator) ReadFault) → onto locators (rest >>= λ more. Ok (a ∷ more)) ≡ onto (locators ++ a ∷ []) rest
onto-cons locators a (Ok more) = ap Ok (sym (append_assoc locators (a ∷ []) more))
onto-cons locators a (Err why) = refl

-- a fault that is meant is an answer
UnlessMemory-fault : {A : Type 0} (fault : ReadFault) (meant : Result A ReadFault) → meant ≡ Err fault → UnlessMemory (Err fault) meant
UnlessMemory-fault (Fault.Csv row) meant e = e
UnlessMemory-fault Fault.Columns meant e = e
UnlessMemory-fault (Fault.Kind row) meant e = e
UnlessMemory-fault (Fault.Prefix row) meant e = e
UnlessMemory-fault (Fault.Name row) meant e = e
UnlessMemory-fault (Fault.Address row) meant e = e
UnlessMemory-fault Fault.TooMany meant e = e
UnlessMemory-fault Fault.Read meant e = e
UnlessMemory-fault Fault.Memory meant e = tt

-- what is left of the parts, and that the parts so far give these locators
pub record PartsLeft {S : Type 0} (steps : S → Option (Bor (List ℕ)) → S → Type 0) (iterator : S) (fault : ReadFault) (locators : List Locator) (all : Result (List Locator) ReadFault) : Type 0 where
  pub left : List (List ℕ)
  pub yields : YieldsList steps (λ x. x.now) iterator left
  pub rest : all ≡ onto locators (each_locator fault left)

pub PartsLeft-start : {S : Type 0} {steps : S → Option (Bor (List ℕ)) → S → Type 0} {iterator : S} (fault : ReadFault) (parts : List (List ℕ)) → YieldsList steps (λ x. x.now) iterator parts → PartsLeft steps iterator fault [] (each_locator fault parts)
PartsLeft-start fault parts y = record { left = parts; yields = y; rest = start (each_locator fault parts) }
  where
    start : (r : Result (List Locator) ReadFault) → r ≡ onto [] r
    start (Ok more) = refl
    start (Err why) = refl

pub PartsLeft-next : {S : Type 0} {steps : S → Option (Bor (List ℕ)) → S → Type 0} {fault : ReadFault} {locators : List Locator} {all : Result (List Locator) ReadFault} (old new : S) (part : Bor (List ℕ)) (a : Locator)
    → PartsLeft steps old fault locators all → steps old (Some part) new → field_of fault (locator_in part.now) ≡ Ok a → PartsLeft steps new fault (locators ++ a ∷ []) all
PartsLeft-next {steps = steps} {fault = fault} {locators = locators} old new part a p s e =
    let w = went steps (λ x. x.now) p.left old new part p.yields.runs s in
    record {
      left = w.0;
      yields = record { runs = w.2 };
      rest = p.rest ∙ ap (λ (l : List (List ℕ)). onto locators (each_locator fault l)) w.1 ∙ rw e (onto-cons locators a (each_locator fault w.0));
    }

pub PartsLeft-fault : {S : Type 0} {steps : S → Option (Bor (List ℕ)) → S → Type 0} {fault : ReadFault} {locators : List Locator} {all : Result (List Locator) ReadFault} (old new : S) (part : Bor (List ℕ)) (why : ReadFault)
    → PartsLeft steps old fault locators all → steps old (Some part) new → field_of fault (locator_in part.now) ≡ Err why → UnlessMemory (Err why) all
PartsLeft-fault {steps = steps} {fault = fault} {locators = locators} {all = all} old new part why p s e =
    let w = went steps (λ x. x.now) p.left old new part p.yields.runs s in
    UnlessMemory-fault why all (p.rest ∙ ap (λ (l : List (List ℕ)). onto locators (each_locator fault l)) w.1 ∙ rw e refl)

pub PartsLeft-end : {S : Type 0} {steps : S → Option (Bor (List ℕ)) → S → Type 0} {fault : ReadFault} {locators : List Locator} {all : Result (List Locator) ReadFault} (old new : S)
    → PartsLeft steps old fault locators all → steps old None new → all ≡ Ok locators
PartsLeft-end {steps = steps} {fault = fault} {locators = locators} old new p s =
    p.rest ∙ ap (λ (l : List (List ℕ)). onto locators (each_locator fault l)) (ended steps (λ x. x.now) p.left old new p.yields.runs s) ∙ ap Ok (append-nil locators)

-- ---- a text without a space

neither : (a b : Bool) → (a || b) ≡ false → (a ≡ false) × (b ≡ false)
neither false b e = (refl, e)
neither true b e = cc e

none_passes : (p : ℕ → Bool) (text : List ℕ) → list_any p text ≡ false → All (λ x. p x ≡ false) text
none_passes p [] e k d l = absurd (omega arith)
none_passes p (x ∷ xs) e zero d l = (neither (p x) (list_any p xs) e).0
none_passes p (x ∷ xs) e (suc k) d l = none_passes p xs (neither (p x) (list_any p xs) e).1 k d (omega arith)

-- a text that has no space is its one part
one_part : (fault : ReadFault) (text : List ℕ) → nat_eq (length text) 0 ≡ false → list_any (λ b. nat_eq b 32) text ≡ false → locators_in fault text ≡ each_locator fault (text ∷ [])
one_part fault text e n = rw e (ap (λ (parts : List (List ℕ)). each_locator fault parts) (slice_split_none (λ b. nat_eq b 32) text (none_passes (λ b. nat_eq b 32) text n)))

pub one_part-locator : (fault : ReadFault) (text : List ℕ) (a : Locator) → nat_eq (length text) 0 ≡ false → list_any (λ b. nat_eq b 32) text ≡ false
    → field_of fault (locator_in text) ≡ Ok a → locators_in fault text ≡ Ok (a ∷ [])
one_part-locator fault text a e n f = one_part fault text e n ∙ rw f refl

pub one_part-fault : (fault : ReadFault) (text : List ℕ) (why : ReadFault) → nat_eq (length text) 0 ≡ false → list_any (λ b. nat_eq b 32) text ≡ false
    → field_of fault (locator_in text) ≡ Err why → UnlessMemory (Err why) (locators_in fault text)
one_part-fault fault text why e n f = UnlessMemory-fault why (locators_in fault text) (one_part fault text e n ∙ rw f refl)
