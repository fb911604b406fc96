-- What a sink that writes a text for each item has written of all that it was given.
use Rattle.std.proofs.Common.{◌≡◌, ℕ, ◌+◌, List, [], ◌∷◌, ◌++◌, length, take, Option, None, Some, refl, sym, ap, subst, ◌∙◌, append_assoc, min, arith, inl, inr}
use Rattle.std.specs.Prelude.{Result, Ok, Err}
use Rattle.std.specs.List.{flat_map}
use Rattle.std.specs.Io.KnownBytes.{Appends, Keeps}
use Rattle.std.proofs.lemmas.Grind.{flat_map-append}
use Rattle.std.proofs.lemmas.List.Concat.{flat_map-cons}
use Rattle.std.proofs.lemmas.List.{append-nil, take-append-le, take_min}
use Rattle.std.proofs.Math.Seq.{take-length, take-append_seam, take-append-add}
use Rattle.ddt_lines.specs.Printing.{AppendsFront}
use Rattle.ddt_commands.specs.Ends.{HasText}
use Rattle.ddt_plan_commands.specs.Answers.{HasFront}
use Rattle.ddt_plan.specs.declared.sink.PlanFault.{PlanFault}
use Rattle.ddt_plan.specs.declared.sink.PlanFault.TheVariants.{Memory, Refused}
use Rattle.ddt_plan.specs.Sinks.{HasTaken, HasGiven}

pub appends_none : (known : Option (List ℕ)) → Appends known known []
appends_none None = tt
appends_none (Some xs) = sym (append-nil xs)

pub appends_both : (a b c : Option (List ℕ)) (xs ys : List ℕ) → Appends a b xs → Appends b c ys → Appends a c (xs ++ ys)
appends_both None b c xs ys h k = tt
appends_both (Some x) None c xs ys h k = absurd h
appends_both (Some x) (Some y) None xs ys h k = absurd k
appends_both (Some x) (Some y) (Some z) xs ys h k = k ∙ ap (λ (l : List ℕ). l ++ ys) h ∙ append_assoc x xs ys

-- what was there stays
pub keeps_self : (a : Option (List ℕ)) → Keeps a a
keeps_self None = tt
keeps_self (Some xs) = refl

pub keeps_both : (a b c : Option (List ℕ)) → Keeps a b → Keeps b c → Keeps a c
keeps_both None b c h k = tt
keeps_both (Some x) None c h k = absurd h
keeps_both (Some x) (Some y) None h k = absurd k
keeps_both (Some x) (Some y) (Some z) h k = k ∙ h

pub appends_kept : (a b c : Option (List ℕ)) (text : List ℕ) → Appends a b text → Keeps b c → Appends a c text
appends_kept None b c text h k = tt
appends_kept (Some x) None c text h k = absurd h
appends_kept (Some x) (Some y) None text h k = absurd k
appends_kept (Some x) (Some y) (Some z) text h k = k ∙ h

-- a text that was appended, or a front of one, stays where a writer is flushed
pub text_kept : (is_text : List ℕ → Type 0) (a b c : Option (List ℕ)) → HasText is_text a b → Keeps b c → HasText is_text a c
text_kept is_text a b c h k = (h.0, h.1, appends_kept a b c h.0 h.2 k)

pub front_kept : (is_text : List ℕ → Type 0) (a b c : Option (List ℕ)) → HasFront is_text a b → Keeps b c → HasFront is_text a c
front_kept is_text a b c (inl h) k = inl (keeps_both a b c h k)
front_kept is_text a b c (inr h) k = inr (h.0, h.1, (h.2.0, appends_kept a b c (take h.2.0 h.0) h.2.1 k))

-- the same of a wider kind of text
pub text_wider : (is_text other : List ℕ → Type 0) (a b : Option (List ℕ)) → ((text : List ℕ) → is_text text → other text) → HasText is_text a b → HasText other a b
text_wider is_text other a b wide h = (h.0, wide h.0 h.1, h.2)

pub front_wider : (is_text other : List ℕ → Type 0) (a b : Option (List ℕ)) → ((text : List ℕ) → is_text text → other text) → HasFront is_text a b → HasFront other a b
front_wider is_text other a b wide (inl h) = inl h
front_wider is_text other a b wide (inr h) = inr (h.0, wide h.0 h.1, h.2)

-- a whole text, or nothing, is a front of it
pub whole_front : (a b : Option (List ℕ)) (text : List ℕ) → Appends a b text → AppendsFront a b text
whole_front a b text h = (length text, subst (Appends a b) (sym (take-length text)) h)

pub no_front : (a : Option (List ℕ)) (text : List ℕ) → AppendsFront a a text
no_front a text = (0, appends_none a)

-- a front of a text is one of the text with more behind it
pub front_of_more : (a b : Option (List ℕ)) (xs ys : List ℕ) → Appends a b xs → AppendsFront a b (xs ++ ys)
front_of_more a b xs ys h = (length xs, subst (Appends a b) (sym (take-append_seam xs ys)) h)

-- how much of a text is taken where others stand before it and behind it
seam : (n : ℕ) (xs ys zs : List ℕ) → take (length xs + min n (length ys)) (xs ++ (ys ++ zs)) ≡ xs ++ take n ys
seam n xs ys zs =
    take-append-add xs (ys ++ zs) (min n (length ys))
    ∙ ap (λ (l : List ℕ). xs ++ l) (take-append-le (min n (length ys)) ys zs (omega arith) ∙ take_min n ys)

-- behind a text a front of another one, with more behind that
pub front_behind : (a b c : Option (List ℕ)) (xs ys zs : List ℕ) → Appends a b xs → AppendsFront b c ys → AppendsFront a c (xs ++ (ys ++ zs))
front_behind a b c xs ys zs h k =
    (length xs + min k.0 (length ys), subst (Appends a c) (sym (seam k.0 xs ys zs)) (appends_both a b c xs (take k.0 ys) h k.1))

-- the same with nothing behind it, and with nothing before it
pub front_after : (a b c : Option (List ℕ)) (xs ys : List ℕ) → Appends a b xs → AppendsFront b c ys → AppendsFront a c (xs ++ ys)
front_after a b c xs ys h k =
    (length xs + k.0, subst (Appends a c) (sym (take-append-add xs ys k.0)) (appends_both a b c xs (take k.0 ys) h k.1))

pub front_before : (a c : Option (List ℕ)) (ys zs : List ℕ) → AppendsFront a c ys → AppendsFront a c (ys ++ zs)
front_before a c ys zs k = front_behind a a c [] ys zs (appends_none a) k

-- a whole text is a front of one
pub text_front : (is_text : List ℕ → Type 0) (a b : Option (List ℕ)) → HasText is_text a b → HasFront is_text a b
text_front is_text a b h = inr (h.0, h.1, whole_front a b h.0 h.2)

module _ {S T R : Type 0} (takes : S → T → Result (Unit {0}) R → S → Type 0) (contents : S → Option (List ℕ))
    (text : T → List ℕ) (IsSo : S → Type 0) where
  -- Such a sink appends the text of an item that it takes, and a front of it where it refuses the item.
  pub record IsWriter : Type 0 where
    pub stays : (s : S) (item : T) (next : S) → IsSo s → takes s item (Ok tt) next → IsSo next
    pub whole : (s : S) (item : T) (next : S) → IsSo s → takes s item (Ok tt) next → Appends (contents s) (contents next) (text item)
    pub part : (s : S) (item : T) (why : R) (next : S) → IsSo s → takes s item (Err why) next → AppendsFront (contents s) (contents next) (text item)

  pub taken_so : IsWriter → (items : List T) (s after : S) → IsSo s → HasTaken takes s items after → IsSo after
  taken_so writer [] s after so h = subst IsSo (sym h) so
  taken_so writer (item ∷ items) s after so h = taken_so writer items h.0 after (writer.stays s item h.0 so h.1) h.2

  pub taken_text : IsWriter → (items : List T) (s after : S) → IsSo s → HasTaken takes s items after → Appends (contents s) (contents after) (flat_map text items)
  taken_text writer [] s after so h = subst (λ (t : S). Appends (contents s) (contents t) (flat_map text [])) (sym h) (appends_none (contents s))
  taken_text writer (item ∷ items) s after so h =
      let rest = taken_text writer items h.0 after (writer.stays s item h.0 so h.1) h.2 in
      subst (Appends (contents s) (contents after)) (sym (flat_map-cons text item items)) (appends_both _ _ _ (text item) (flat_map text items) (writer.whole s item h.0 so h.1) rest)

  -- whatever the answer, a front of all texts was appended
  pub given_front : IsWriter → (items : List T) (s after : S) (answer : Result (Unit {0}) (PlanFault R)) → IsSo s → HasGiven takes s items answer after
      → AppendsFront (contents s) (contents after) (flat_map text items)
  given_front writer items s after (Ok u) so h = whole_front _ _ _ (taken_text writer items s after so h)
  given_front writer items s after (Err Memory) so h =
      subst (λ (l : List T). AppendsFront (contents s) (contents after) (flat_map text l)) (sym h.all)
      (subst (AppendsFront (contents s) (contents after)) (sym (flat_map-append text h.taken h.left))
      (front_of_more _ _ _ (flat_map text h.left) (taken_text writer h.taken s after so h.took)))
  given_front writer items s after (Err (Refused why)) so h =
      let first = taken_text writer h.taken s h.until so h.took in
      let part = writer.part h.until h.item why after (taken_so writer h.taken s h.until so h.took) h.refused in
      subst (λ (l : List T). AppendsFront (contents s) (contents after) (flat_map text l)) (sym h.all)
      (subst (AppendsFront (contents s) (contents after)) (sym (flat_map-append text h.taken (h.item ∷ h.left) ∙ ap (λ (l : List ℕ). flat_map text h.taken ++ l) (flat_map-cons text h.item h.left)))
      (front_behind _ _ _ (flat_map text h.taken) (text h.item) (flat_map text h.left) first part))
