-- What a reader has left, record after record.
use Rattle.std.proofs.Common.{◌≡◌, ◌⊎◌, inl, inr, ℕ, zero, suc, ◌+◌, ◌<◌, List, [], ◌∷◌, ◌++◌, length, Option, Some, None, Bool, true, false, Ok, Err, refl, sym, ap, subst, ◌∙◌, arith}
use Rattle.std.proofs.lemmas.Option.{same_Some}
use Rattle.std.specs.Prelude.{if◌then◌else◌, option_map}
use Rattle.csv.specs.Machine.{Read, next_record, step, is_end, fields_after, field_after, ends_at_end}
use Rattle.csv.specs.Reading.{NextIs, ReadsNext, ReadRecord, ExplainsRead, source_of, pending_of, default_config, records, records_from, reader_state, strip_bom}
use Rattle.csv.specs.declared.parser.Config.{Config}
use Rattle.csv.specs.declared.parser.State.{State}
use Rattle.csv.specs.declared.parser.State.TheVariants as st
use Rattle.csv.specs.declared.reader.Reader.{Reader}
use Rattle.csv.specs.declared.error.ErrorKind.{ErrorKind}
use Rattle.csv.specs.declared.error.ErrorKind.TheVariants as kind
use Rattle.std.proofs.lemmas.Bool.{false≢true}
use Rattle.csv.proofs.ReadFacts.{rows-end}
use Rattle.ddt_register.specs.Left.{AtMost, IsReading, IsLeft, TakesRecord, csv_fault}

-- ---- a text becomes shorter by each record, or is at its end

abbrev Shorter : Read → ℕ → Type 0
Shorter p n = (length p.2 < n) ⊎ ((p.2 ≡ []) × (p.1 ≡ st.StartRecord))

Shorter-more : (p : Read) (n : ℕ) → Shorter p n → Shorter p (suc n)
Shorter-more p n (inl lt) = inl (omega arith)
Shorter-more p n (inr h) = inr h

shorter : (cfg : Config) (s : State) (fields : List (List ℕ)) (field xs : List ℕ) (p : Read) → next_record cfg s fields field xs ≡ Some p → Shorter p (length xs)
unfolding next_record
shorter cfg s fields field [] p e = at_end (ends_at_end s) e
  where
    at_end : (b : Bool) → (if b then Some (let r : Read = (fields ++ field ∷ [], st.StartRecord, []) in r) else None) ≡ Some p → Shorter p 0
    at_end true e = let q = same_Some _ p e in inr (ap (λ (r : Read). r.2) (sym q), ap (λ (r : Read). r.1) (sym q))
    at_end false e = cc e
shorter cfg s fields field (c ∷ rest) p e = by (is_end (step cfg s c).1) refl (shorter cfg (step cfg s c).0 _ _ rest p)
  where
    by : (b : Bool) → is_end (step cfg s c).1 ≡ b
        → (next_record cfg (step cfg s c).0 (fields_after (step cfg s c).1 fields field) (field_after (step cfg s c).1 c field) rest ≡ Some p → Shorter p (length rest))
        → Shorter p (suc (length rest))
    by true q more = let l : rest ≡ p.2 = ap (λ (r : Read). r.2) (same_Some _ p (rw q at e)) in rw (← l) (inl (omega arith))
    by false q more = Shorter-more p (length rest) (more (rw q at e))

-- the records that a text gives from a state are its next one, and those after it
pub records_from-some : (n : ℕ) (s : State) (xs : List ℕ) (p : Read) → AtMost n s xs → next_record default_config s [] [] xs ≡ Some p
    → (m : ℕ) × (records_from default_config n s xs ≡ p.0 ∷ records_from default_config m p.1 p.2) × AtMost m p.1 p.2
unfolding records_from next_record
records_from-some zero s xs p (inl lt) e = absurd (omega arith)
records_from-some zero s xs p (inr h) e = cc (rw (h.0, h.1) at e)
records_from-some (suc n) s xs p (inl lt) e = (n, rw e refl, enough (shorter default_config s [] [] xs p e))
  where
    enough : Shorter p (length xs) → AtMost n p.1 p.2
    enough (inl less) = inl (omega arith)
    enough (inr h) = inr h
records_from-some (suc n) s xs p (inr h) e = cc (rw (h.0, h.1) at e)

pub records_from-none : (n : ℕ) (s : State) (xs : List ℕ) → next_record default_config s [] [] xs ≡ None → records_from default_config n s xs ≡ []
unfolding records_from
records_from-none zero s xs e = refl
records_from-none (suc n) s xs e = rw e refl

-- ---- one read

next-some : (o : Option Read) (fields : List (List ℕ)) (s : State) (rest : List ℕ) → NextIs o true fields s rest → (p : Read) × (o ≡ Some p) × (fields ≡ p.0) × (s ≡ p.1) × (rest ≡ p.2)
next-some None fields s rest h = cc h
next-some (Some p) fields s rest h = (p, refl, h.1, h.2, h.3)

-- the state and the bytes after a record that was read
took-here : (s s2 : State) (xs : List ℕ) (after : Option (List ℕ)) (fields : List (List ℕ)) → ReadsNext default_config s (Some xs) after true fields s2
    → (p : Read) × (next_record default_config s [] [] xs ≡ Some p) × (fields ≡ p.0) × (s2 ≡ p.1) × (after ≡ Some p.2)
took-here s s2 xs None fields h = absurd h
took-here s s2 xs (Some rest) fields h = let n = next-some _ fields s2 rest h in (n.0, n.1, n.2, n.3, ap Some n.4)

took : (cfg : Config) (s s2 : State) (source after : Option (List ℕ)) (fields : List (List ℕ)) (xs : List ℕ) → cfg ≡ default_config → source ≡ Some xs → ReadsNext cfg s source after true fields s2
    → (p : Read) × (next_record default_config s [] [] xs ≡ Some p) × (fields ≡ p.0) × (s2 ≡ p.1) × (after ≡ Some p.2)
took cfg s s2 source after fields xs e f h = took-here s s2 xs after fields (rw (e, f) at h)

source_after : {R : Type 0} (remaining : R → Option (List ℕ)) (new : Reader R) (xs : List ℕ) → new.bom_checked ≡ true → pending_of (remaining new.rdr) new ≡ Some xs → source_of remaining new ≡ Some xs
source_after remaining new xs begun e = rw begun e

-- a read that found a record took the first that was left
pub Takes-found : {R : Type 0} (remaining : R → Option (List ℕ)) (old new : Reader R) (row : ℕ) (fields : List (List ℕ)) (left : List (List (List ℕ)))
    → IsReading old → ReadRecord remaining old new true fields → IsLeft remaining old left → TakesRecord remaining old new row fields left (Ok true)
Takes-found remaining old new row fields left set read l =
    let t = took old.config old.state new.state (source_of remaining old) (pending_of (remaining new.rdr) new) fields l.bytes set.config l.source read.0 in
    let more = records_from-some l.most old.state l.bytes t.0 l.enough t.1 in
    let rest : List (List (List ℕ)) = records_from default_config more.0 t.0.1 t.0.2 in (
      rest,
      l.records ∙ (more.1 ∙ ap (λ (f : List (List ℕ)). f ∷ rest) (sym t.2)),
      record {
        most = more.0;
        bytes = t.0.2;
        source = source_after remaining new t.0.2 read.1 t.4;
        enough = subst (λ (s : State). AtMost more.0 s t.0.2) (sym t.3) more.2;
        records = ap (λ (s : State). records_from default_config more.0 s t.0.2) (sym t.3);
      },
    )

-- A read that refused a record, for its length, refused the first that was left. Nothing is said of a failed reader and of
-- running out of memory.
pub Takes-fault : {R : Type 0} (remaining : R → Option (List ℕ)) (old new : Reader R) (row : ℕ) (fields : List (List ℕ)) (left : List (List (List ℕ))) (why : ErrorKind)
    → IsReading old → ExplainsRead remaining old new false why → IsLeft remaining old left → TakesRecord remaining old new row fields left (Err (csv_fault row why))
Takes-fault remaining old new row fields left (kind.Io error) set x l = tt
Takes-fault remaining old new row fields left kind.OutOfMemory set x l = tt
Takes-fault remaining old new row fields left (kind.UnequalLengths pos len other) set x l =
    let t = took old.config old.state new.state (source_of remaining old) (pending_of (remaining new.rdr) new) x.3 l.bytes set.config l.source x.4 in
    let more = records_from-some l.most old.state l.bytes t.0 l.enough t.1 in
    let rest : List (List (List ℕ)) = records_from default_config more.0 t.0.1 t.0.2 in
    (refl, len, x.1, x.3, rest, l.records ∙ (more.1 ∙ ap (λ (f : List (List ℕ)). f ∷ rest) (sym t.2)), λ same. x.2 (sym same ∙ x.5))
Takes-fault remaining old new row fields left (kind.Utf8 pos error) set x l = absurd (false≢true x.0)
Takes-fault remaining old new row fields left (kind.Serialize text) set x l = absurd x
Takes-fault remaining old new row fields left (kind.Deserialize pos error) set x l = absurd x

pub Takes-none : {R : Type 0} (remaining : R → Option (List ℕ)) (old new : Reader R) (row : ℕ) (fields : List (List ℕ)) (left : List (List (List ℕ)))
    → IsReading old → ReadRecord remaining old new false fields → IsLeft remaining old left → TakesRecord remaining old new row fields left (Ok false)
Takes-none remaining old new row fields left set read l =
    l.records ∙ records_from-none l.most old.state l.bytes (rows-end remaining old new fields default_config l.bytes set.config l.source read)

pub Takes-ok : {R : Type 0} (remaining : R → Option (List ℕ)) (old new : Reader R) (row : ℕ) (fields : List (List ℕ)) (left : List (List (List ℕ))) (found : Bool)
    → IsReading old → ReadRecord remaining old new found fields → IsLeft remaining old left → TakesRecord remaining old new row fields left (Ok found)
Takes-ok remaining old new row fields left true set read l = Takes-found remaining old new row fields left set read l
Takes-ok remaining old new row fields left false set read l = Takes-none remaining old new row fields left set read l

-- a new reader has all the records of its bytes left
pub IsLeft-all : {R : Type 0} (remaining : R → Option (List ℕ)) (reader : Reader R) (given : Option (List ℕ)) (bytes : List ℕ)
    → source_of remaining reader ≡ option_map strip_bom given → reader_state reader ≡ st.StartRecord → given ≡ Some bytes → IsLeft remaining reader (records default_config (strip_bom bytes))
IsLeft-all remaining reader given bytes source state known = record {
  most = length (strip_bom bytes) + 1;
  bytes = strip_bom bytes;
  source = source ∙ ap (option_map strip_bom) known;
  enough = inl (omega arith);
  records = ap (λ (s : State). records_from default_config (length (strip_bom bytes) + 1) s (strip_bom bytes)) (sym state);
}
