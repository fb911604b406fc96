-- The table of pending lookups: its slots as a map by ticket, and what an add and a removal keep.
use Rattle.std.proofs.Common.{◌≡◌, ℕ, ◌+◌, ◌-◌, ◌<◌, ◌≤◌, true, List, [], ◌∷◌, length, map, Option, Some, None, refl, sym, ap, subst, ◌∙◌, inl, inr, ◌⊎◌, nat_cmp, arith, eq-eqb, Contains}
use Rattle.std.specs.Prelude.{◌≢◌, ◌==◌, Bool, is_some, IfSome, IfNone, OnSome, slice_index_or, count_by}
use Rattle.std.specs.Cmp.{nat_cmp_total, unsigned_tied}
use Rattle.std.specs.FinMap.{FinMap, insert, remove, len, find, from_entries, get-from_entries, len-insert, len-remove, len-empty}
use Rattle.std.specs.FinMap as finite
use Rattle.std.specs.BTreeMap.{BTreeMap, IsLowerBound, UpdatesBy, is_at}
use Rattle.std.specs.BTreeMap as btree
use Rattle.std.specs.Map.{lookup}
use Rattle.std.proofs.lemmas.Map.Keys.{le_from_not_gt}
use Rattle.std.proofs.lemmas.Option.{none-some, same_Some}
use Rattle.std.proofs.lemmas.Bool.{cases_eq}
use Rattle.slab.specs.Slab.{Slab, get, slab_len, entries, entries_from, Updates}
use Rattle.slab.proofs.SlabLemmas.{Contains-cons, Contains-cons_cases, Contains-entries}
use Rattle.ddt_resolver.specs.declared.pending.Pending.{Pending}
use Rattle.ddt_resolver.specs.TicketedLookup.{TicketedLookup}
use Rattle.ddt_resolver.specs.Table.{ticketed, by_ticket, Held, IsTable, IsUnknown, HasNonce}
use Rattle.ddt_resolver.specs.laws.NumberMap.{found_insert, found_remove, get-insert_same, get-insert_other, get-remove_same, get-remove_other, not_same, same_numbers}

-- ---- options

-- two options that hold the same values are one
same_option : {A : Type 0} (o p : Option A) → ((v : A) → o ≡ Some v → p ≡ Some v) → ((v : A) → p ≡ Some v → o ≡ Some v) → o ≡ p
same_option None None there back = refl
same_option None (Some v) there back = back v refl
same_option (Some v) p there back = sym (there v refl)

pub holds_none : {A : Type 0} (o : Option A) → ((v : A) → o ≡ Some v → ⊥) → o ≡ None
holds_none None none = refl
holds_none (Some v) none = absurd (none v refl)

pub if_some : {A : Type 0} (o : Option A) (P : A → Type 0) → ((v : A) → o ≡ Some v → P v) → IfSome o P
if_some None P h = tt
if_some (Some v) P h = h v refl

pub on_some : {A P : Type 0} (o : Option A) (w : A) → OnSome o P → o ≡ Some w → P
on_some None w h e = cc
on_some (Some v) w h e = h

-- ---- the map of a slab's lookups

abbrev pub under : ℕ → Pending → TicketedLookup
under t l = record { ticket = t; lookup = l }

same_find : {V : Type 0} (q : ℕ) (es : List (ℕ × V)) → find nat_cmp q es ≡ lookup (◌==◌ q) es
same_find q [] = refl
same_find q (e ∷ es) = rw (unsigned_tied q e.0, same_find q es)

at_map : (es : List (ℕ × Pending)) (q : ℕ) → finite.get (from_entries {R = nat_cmp} es) q ≡ lookup (◌==◌ q) es
at_map es q = get-from_entries nat_cmp_total es q ∙ same_find q es

-- what is found under a ticket is an entry's
listed : (t : ℕ) (l : Pending) (es : List (ℕ × TicketedLookup)) → lookup (◌==◌ t) (map ticketed es) ≡ Some l → (e : ℕ × TicketedLookup) × Contains es e × (e.1 ≡ under t l)
listed t l [] found = cc
listed t l (e ∷ es) found = elim (cases_eq t e.1.ticket) [
  | inl same ↦
      let it : e.1.lookup ≡ l = same_Some e.1.lookup l (rw (eq-eqb t e.1.ticket same) at found) in
      (e, (0, omega arith, refl), (λ i. under (sym same i) (it i)))
  | inr other ↦ let d = listed t l es (rw (not_same t e.1.ticket other) at found) in (d.0, Contains-cons e d.0 es d.1, d.2)
]

-- an entry is found under its ticket, if all entries of this ticket have one lookup
shown : (e : ℕ × TicketedLookup) (es : List (ℕ × TicketedLookup)) → Contains es e → ((d : ℕ × TicketedLookup) → Contains es d → d.1.ticket ≡ e.1.ticket → d.1.lookup ≡ e.1.lookup) → lookup (◌==◌ e.1.ticket) (map ticketed es) ≡ Some e.1.lookup
shown e [] there one = absurd (omega (arith, there.1))
shown e (d ∷ es) there one = elim (cases_eq e.1.ticket d.1.ticket) [
  | inl same ↦ rw (eq-eqb e.1.ticket d.1.ticket same) (ap Some (one d (0, omega arith, refl) (sym same)))
  | inr other ↦
      rw (not_same e.1.ticket d.1.ticket other) (elim (Contains-cons_cases d e es there) [
        | inl same ↦ absurd (other (cc))
        | inr rest ↦ shown e es rest (λ x in_es. one x (Contains-cons d x es in_es))
      ])
]

-- no two slots have one ticket
abbrev AreApart : Slab TicketedLookup → Type 0
AreApart s = (i j : ℕ) (v w : TicketedLookup) → get s i ≡ Some v → get s j ≡ Some w → v.ticket ≡ w.ticket → i ≡ j

-- what is found under a ticket stands in a slot
found_in : (s : Slab TicketedLookup) (t : ℕ) (l : Pending) → finite.get (by_ticket s) t ≡ Some l → (slot : ℕ) × (get s slot ≡ Some (under t l))
found_in s t l found =
    let e = listed t l (entries s) (sym (at_map (map ticketed (entries s)) t) ∙ found) in
    (e.0.0, (Contains-entries s e.0.0 e.0.1).0 e.1 ∙ ap Some e.2)

-- what stands in a slot is found under its ticket
is_shown : (s : Slab TicketedLookup) → AreApart s → (slot : ℕ) (w : TicketedLookup) → get s slot ≡ Some w → finite.get (by_ticket s) w.ticket ≡ Some w.lookup
is_shown s apart slot w here =
    at_map (map ticketed (entries s)) w.ticket
    ∙ shown (slot, w) (entries s) ((Contains-entries s slot w).1 here) (λ d there same.
    let in_d : get s d.0 ≡ Some d.1 = (Contains-entries s d.0 d.1).0 there in
    let one : slot ≡ d.0 = apart slot d.0 w d.1 here in_d (sym same) in
    ap (λ (x : TicketedLookup). x.lookup) (same_Some d.1 w (sym in_d ∙ ap (get s) (sym one) ∙ here)))

absent : (s : Slab TicketedLookup) (t : ℕ) → ((slot : ℕ) (w : TicketedLookup) → get s slot ≡ Some w → w.ticket ≢ t) → finite.get (by_ticket s) t ≡ None
absent s t none = holds_none _ (λ l e. let j = found_in s t l e in none j.0 (under t l) j.1 refl)

-- ---- a lookup is put into an empty slot

pub record IsPut (s n : Slab TicketedLookup) (f g : ℕ → Option ℕ) (next k : ℕ) (w : TicketedLookup) : Type 0 where
  pub is : IsTable f (get s) next
  pub updates : Updates s n k (Some w)
  pub vacant : get s k ≡ None
  pub nonce : w.lookup.nonce ≡ next
  pub here : g next ≡ Some k
  pub others : (q : ℕ) → q ≢ next → g q ≡ f q
  pub latest : (j : ℕ) (v : TicketedLookup) → get s j ≡ Some v → v.lookup.deadline ≤ w.lookup.deadline
  pub fresh : (j : ℕ) (v : TicketedLookup) → get s j ≡ Some v → v.ticket ≢ w.ticket

module _ {s n : Slab TicketedLookup} {f g : ℕ → Option ℕ} {next k : ℕ} {w : TicketedLookup} (p : IsPut s n f g next k w) where
  -- what stands in a slot afterwards was put there, or stood there before
  put_or_before : (j : ℕ) (v : TicketedLookup) → get n j ≡ Some v → ((j ≡ k) × (w ≡ v)) ⊎ ((j ≢ k) × (get s j ≡ Some v))
  put_or_before j v here = elim (cases_eq j k) [
    | inl same ↦ inl (same, cc p.updates.changed)
    | inr other ↦ inr (other, sym (p.updates.others j other) ∙ here)
  ]

  stays_in : (j : ℕ) (v : TicketedLookup) → get s j ≡ Some v → get n j ≡ Some v
  stays_in j v here = p.updates.others j (λ same. cc p.vacant) ∙ here

  put_apart : AreApart n
  put_apart i j v x at_i at_j same = elim (put_or_before i v at_i) [
    | inl a ↦ elim (put_or_before j x at_j) [ inl b ↦ a.0 ∙ sym b.0 | inr b ↦ absurd (p.fresh j x b.1 (cc)) ]
    | inr a ↦ elim (put_or_before j x at_j) [ inl b ↦ absurd (p.fresh i v a.1 (cc)) | inr b ↦ p.is.tickets i j v x a.1 b.1 same ]
  ]

  pub put_table : IsTable g (get n) (next + 1)
  put_table = record {
    noted = λ j v at. elim (put_or_before j v at) [
      | inl a ↦ cc
      | inr a ↦ let below : v.lookup.nonce < next = p.is.nonces j v a.1 in p.others v.lookup.nonce (λ same. omega arith) ∙ p.is.noted j v a.1
    ];
    held = λ q slot found below. elim (cases_eq q next) [
      | inl same ↦ (w, cc p.updates.changed, p.nonce ∙ sym same)
      | inr other ↦
          let h = p.is.held q slot (sym (p.others q other) ∙ found) (omega (arith, p.is.given q slot (sym (p.others q other) ∙ found))) in
          (h.0, stays_in slot h.0 h.1, h.2)
    ];
    given = λ q slot found. elim (cases_eq q next) [ inl same ↦ omega arith | inr other ↦ omega (arith, p.is.given q slot (sym (p.others q other) ∙ found)) ];
    nonces = λ j v at. elim (put_or_before j v at) [ inl a ↦ put_nonce v a.1 | inr a ↦ omega (arith, p.is.nonces j v a.1) ];
    tickets = put_apart;
    rising = λ i j v x at_i at_j less. elim (put_or_before i v at_i) [
      | inl a ↦ elim (put_or_before j x at_j) [
        | inl b ↦ absurd (omega (arith, nonce_of v a.1, put_nonce x b.1))
        | inr b ↦ absurd (omega (arith, nonce_of v a.1, p.is.nonces j x b.1))
      ]
      | inr a ↦ elim (put_or_before j x at_j) [ inl b ↦ rw (← b.1) (p.latest i v a.1) | inr b ↦ p.is.rising i j v x a.1 b.1 less ]
    ];
  }
    where
      nonce_of : (v : TicketedLookup) → w ≡ v → v.lookup.nonce ≡ next
      nonce_of v same = cc

      put_nonce : (v : TicketedLookup) → w ≡ v → v.lookup.nonce < next + 1
      put_nonce v same = omega (arith, nonce_of v same)

  pub put_map : by_ticket n ≡ insert (by_ticket s) w.ticket w.lookup
  put_map = same_numbers _ _ (λ t. same_option _ _ (there t) (back t))
    where
      there : (t : ℕ) (l : Pending) → finite.get (by_ticket n) t ≡ Some l → finite.get (insert (by_ticket s) w.ticket w.lookup) t ≡ Some l
      there t l found =
          let j = found_in n t l found in
          elim (put_or_before j.0 (under t l) j.1) [
            | inl a ↦ subst (λ (y : TicketedLookup). finite.get (insert (by_ticket s) w.ticket w.lookup) y.ticket ≡ Some y.lookup) a.1 (get-insert_same (by_ticket s) w.ticket w.lookup)
            | inr a ↦ get-insert_other (by_ticket s) w.ticket w.lookup t (p.fresh j.0 (under t l) a.1) ∙ is_shown s p.is.tickets j.0 (under t l) a.1
          ]

      back : (t : ℕ) (l : Pending) → finite.get (insert (by_ticket s) w.ticket w.lookup) t ≡ Some l → finite.get (by_ticket n) t ≡ Some l
      back t l found = elim (found_insert (by_ticket s) w.ticket w.lookup t l found) [
        | inl a ↦ ap (finite.get (by_ticket n)) a.0 ∙ is_shown n put_apart k w p.updates.changed ∙ ap Some a.1
        | inr a ↦ let j = found_in s t l a.1 in is_shown n put_apart j.0 (under t l) (stays_in j.0 (under t l) j.1)
      ]

  pub put_count : len (by_ticket s) ≡ slab_len s → slab_len n ≡ slab_len s + 1 → len (by_ticket n) ≡ slab_len n
  put_count was more =
      let e : len (by_ticket n) ≡ len (by_ticket s) + 1 =
      ap len put_map ∙ len-insert nat_cmp_total (by_ticket s) w.ticket w.lookup ∙ rw (absent s w.ticket p.fresh) in
      omega arith

-- ---- a lookup is taken out of its slot

module _ {s n : Slab TicketedLookup} {k : ℕ} {w : TicketedLookup} (u : Updates s n k None) (there : get s k ≡ Some w) {f : ℕ → Option ℕ} {next : ℕ} (is : IsTable f (get s) next) where
  -- what stands in a slot afterwards stood there before
  before : (j : ℕ) (v : TicketedLookup) → get n j ≡ Some v → (j ≢ k) × (get s j ≡ Some v)
  before j v here = elim (cases_eq j k) [ inl same ↦ cc u.changed | inr other ↦ (other, sym (u.others j other) ∙ here) ]

  taken_apart : AreApart n
  taken_apart i j v x at_i at_j = is.tickets i j v x (before i v at_i).1 (before j x at_j).1

  pub taken_table : (g : ℕ → Option ℕ) → g w.lookup.nonce ≡ None → ((q : ℕ) → q ≢ w.lookup.nonce → g q ≡ f q) → IsTable g (get n) next
  taken_table g gone others = record {
    noted = λ j v at. let b = before j v at in others v.lookup.nonce (λ same. b.0 (cc (is.noted j v b.1, is.noted k w there))) ∙ is.noted j v b.1;
    held = λ q slot found below.
        let h = is.held q slot (was q slot found) below in
        (h.0, u.others slot (λ same. elsewhere q slot found (cc)) ∙ h.1, h.2);
    given = λ q slot found. is.given q slot (was q slot found);
    nonces = λ j v at. is.nonces j v (before j v at).1;
    tickets = taken_apart;
    rising = λ i j v x at_i at_j. is.rising i j v x (before i v at_i).1 (before j x at_j).1;
  }
    where
      elsewhere : (q slot : ℕ) → g q ≡ Some slot → q ≢ w.lookup.nonce
      elsewhere q slot found same = cc

      was : (q slot : ℕ) → g q ≡ Some slot → f q ≡ Some slot
      was q slot found = sym (others q (elsewhere q slot found)) ∙ found

  pub taken_map : by_ticket n ≡ remove (by_ticket s) w.ticket
  taken_map = same_numbers _ _ (λ t. same_option _ _ (forth t) (back t))
    where
      forth : (t : ℕ) (l : Pending) → finite.get (by_ticket n) t ≡ Some l → finite.get (remove (by_ticket s) w.ticket) t ≡ Some l
      forth t l found =
          let j = found_in n t l found in
          let b = before j.0 (under t l) j.1 in
          get-remove_other (by_ticket s) w.ticket t (λ same. b.0 (is.tickets j.0 k (under t l) w b.1 there same)) ∙ is_shown s is.tickets j.0 (under t l) b.1

      back : (t : ℕ) (l : Pending) → finite.get (remove (by_ticket s) w.ticket) t ≡ Some l → finite.get (by_ticket n) t ≡ Some l
      back t l found =
          let r = found_remove (by_ticket s) w.ticket t l found in
          let j = found_in s t l r.1 in
          let own = λ (same : j.0 ≡ k). same_Some (under t l) w (sym j.1 ∙ ap (get s) same ∙ there) in
          is_shown n taken_apart j.0 (under t l) (u.others j.0 (λ same. r.0 (ap (λ (y : TicketedLookup). y.ticket) (own same))) ∙ j.1)

  pub taken_count : len (by_ticket s) ≡ slab_len s → slab_len n + 1 ≡ slab_len s → len (by_ticket n) ≡ slab_len n
  taken_count was less =
      let e : len (by_ticket n) ≡ len (by_ticket s) - 1 =
      ap len taken_map ∙ len-remove nat_cmp_total (by_ticket s) w.ticket ∙ rw (is_shown s is.tickets k w there) in
      omega arith

-- ---- no lookup at all

pub no_table : (s : Slab TicketedLookup) (f : ℕ → Option ℕ) (next : ℕ) → s.slots ≡ [] → ((q : ℕ) → f q ≡ None) → IsTable f (get s) next
no_table s f next empty_slots none = record {
  noted = λ j v at. absurd (nothing j v at);
  held = λ q slot found below. cc (none q);
  given = λ q slot found. cc (none q);
  nonces = λ j v at. absurd (nothing j v at);
  tickets = λ i j v w a b same. absurd (nothing i v a);
  rising = λ i j v w a b less. absurd (nothing i v a);
}
  where
    nothing : (j : ℕ) (v : TicketedLookup) → get s j ≡ Some v → ⊥
    nothing j v at = none-some v (sym (ap (λ (xs : List (Option TicketedLookup)). slice_index_or xs j None) empty_slots) ∙ at)

pub nothing_at : (m : BTreeMap ℕ ℕ) → m.entries ≡ [] → (q : ℕ) → btree.get nat_cmp m q ≡ None
nothing_at m none q = ap (λ (es : List (ℕ × ℕ)). lookup (is_at (nat_cmp q)) es) none

pub no_count : (s : Slab TicketedLookup) → s.slots ≡ [] → len (by_ticket s) ≡ slab_len s
no_count s none =
    ap (λ (es : List (Option TicketedLookup)). len (from_entries {R = nat_cmp} (map ticketed (entries_from 0 es)))) none
    ∙ len-empty nat_cmp Pending ∙ ap (λ (es : List (Option TicketedLookup)). count_by is_some es) (sym none)

-- ---- a table and the map that contracts see

module _ (s : Slab TicketedLookup) {f : ℕ → Option ℕ} {next : ℕ} (inside : IsTable f (get s) next × (len (by_ticket s) ≡ slab_len s)) {spare : ℕ} {is_ready : Bool} {h : Held}
    (view : ◌≡◌ {A = Held} (record { lookups = by_ticket s; next = next; spare = spare; is_ready = is_ready }) h) where
  pub in_map : (slot : ℕ) (w : TicketedLookup) → get s slot ≡ Some w → finite.get h.lookups w.ticket ≡ Some w.lookup
  in_map slot w here = ap (λ (x : Held). finite.get x.lookups w.ticket) (sym view) ∙ is_shown s inside.0.tickets slot w here

  placed : (t : ℕ) (l : Pending) → finite.get h.lookups t ≡ Some l → (slot : ℕ) × (get s slot ≡ Some (under t l)) × (f l.nonce ≡ Some slot) × (l.nonce < next)
  placed t l found =
      let j = found_in s t l (ap (λ (x : Held). finite.get x.lookups t) view ∙ found) in
      (j.0, j.1, inside.0.noted j.0 (under t l) j.1, inside.0.nonces j.0 (under t l) j.1)

  -- a nonce that wasn't given out is no lookup's, and neither is one that leads nowhere
  pub not_given : (nonce : ℕ) → next ≤ nonce → IsUnknown h.lookups nonce
  not_given nonce past t l found same = omega (arith, (placed t l found).3)

  pub not_noted : (nonce : ℕ) → f nonce ≡ None → IsUnknown h.lookups nonce
  not_noted nonce none t l found same = let p = placed t l found in none-some p.0 (sym none ∙ ap f (sym same) ∙ p.2)

  module _ (nonce slot : ℕ) (here : f nonce ≡ Some slot) where
    -- the lookup of a nonce stands in the slot to which the nonce leads
    in_its_slot : (t : ℕ) (l : Pending) → finite.get h.lookups t ≡ Some l → l.nonce ≡ nonce → get s slot ≡ Some (under t l)
    in_its_slot t l found same =
        let p = placed t l found in
        ap (get s) (same_Some slot p.0 (sym here ∙ ap f (sym same) ∙ p.2)) ∙ p.1

    pub only_one : (w : TicketedLookup) → get s slot ≡ Some w → (t : ℕ) → HasNonce h.lookups t nonce → w.ticket ≡ t
    only_one w at t has = ap (λ (x : TicketedLookup). x.ticket) (same_Some w (under t has.0) (sym at ∙ in_its_slot t has.0 has.1 has.2))

    -- the lookup of the least nonce that leads anywhere has the least nonce of all, and the first deadline
    module _ (w : TicketedLookup) (below : nonce < next) (at : get s slot ≡ Some w) (least : (q place : ℕ) → f q ≡ Some place → nonce ≤ q) where
      own_nonce : w.lookup.nonce ≡ nonce
      own_nonce = let o = inside.0.held nonce slot here below in ap (λ (v : TicketedLookup). v.lookup.nonce) (same_Some w o.0 (sym at ∙ o.1)) ∙ o.2

      pub least_nonce : (u : ℕ) (m : Pending) → finite.get h.lookups u ≡ Some m → w.lookup.nonce ≤ m.nonce
      least_nonce u m found = let o = placed u m found in omega (arith, own_nonce, least m.nonce o.0 o.2)

      pub first_deadline : (u : ℕ) (m : Pending) → finite.get h.lookups u ≡ Some m → w.lookup.deadline ≤ m.deadline
      first_deadline u m found = elim (cases_eq nonce m.nonce) [
        | inl same ↦ rw (ap (λ (x : TicketedLookup). x.lookup.deadline) (same_Some w (under u m) (sym at ∙ in_its_slot u m found (sym same)))) (omega arith)
        | inr other ↦ let o = placed u m found in inside.0.rising slot o.0 w (under u m) at o.1 (omega (arith, own_nonce, other, least_nonce u m found))
      ]

  -- where only nonces that weren't given out lead anywhere, there is no lookup
  pub no_lookup : ((q place : ℕ) → f q ≡ Some place → next ≤ q) → (u : ℕ) → finite.get h.lookups u ≡ None
  no_lookup past u = holds_none _ (λ l e. let o = placed u l e in omega (arith, past l.nonce o.0 o.2))

  -- the ticket and lookup of a slot are in the map
  pub pair_in_map : (slot : ℕ) (o : Option (ℕ × Pending)) → IfSome o (λ p. get s slot ≡ Some (under p.0 p.1)) → IfSome o (λ p. finite.get h.lookups p.0 ≡ Some p.1)
  pair_in_map slot None there = tt
  pair_in_map slot (Some p) there = in_map slot (under p.0 p.1) there

  pub ticket_absent : (t : ℕ) → ((slot : ℕ) (w : TicketedLookup) → get s slot ≡ Some w → w.ticket ≢ t) → finite.get h.lookups t ≡ None
  ticket_absent t none = ap (λ (x : Held). finite.get x.lookups t) (sym view) ∙ absent s t none

-- a map that is read by its order: the first key is at or below each
pub at_or_above : (m : BTreeMap ℕ ℕ) (key : ℕ) → IsLowerBound nat_cmp m key → (q at : ℕ) → btree.get nat_cmp m q ≡ Some at → key ≤ q
at_or_above m key lower q at found = le_from_not_gt key q (lower q (rw found refl))

-- in a tree without a first key nothing is found
pub no_first : (m : BTreeMap ℕ ℕ) → (0 < btree.btree_map_len m → ⊥) → (q at : ℕ) → btree.get nat_cmp m q ≡ Some at → ⊥
no_first m empty_tree q at found = by m.entries refl
  where
    by : (es : List (ℕ × ℕ)) → m.entries ≡ es → ⊥
    by [] e = none-some at (sym (nothing_at m e q) ∙ found)
    by (x ∷ es) e = empty_tree (let more : 0 < length (x ∷ es) = omega arith in subst (λ (y : List (ℕ × ℕ)). 0 < length y) (sym e) more)

-- a lookup that is taken out and one with the next nonce put in its place
pub replaced : (m : FinMap nat_cmp Pending) (t : ℕ) (l : Pending) → insert (remove m t) t l ≡ insert m t l
replaced m t l = same_numbers _ _ (λ q. elim (cases_eq q t) [
  | inl same ↦ rw same (get-insert_same (remove m t) t l ∙ sym (get-insert_same m t l))
  | inr other ↦ get-insert_other (remove m t) t l q other ∙ get-remove_other m t q other ∙ sym (get-insert_other m t l q other)
])

-- the entries of a tree after a removal, at other keys
pub others_taken : (m n : BTreeMap ℕ ℕ) (k : ℕ) → UpdatesBy nat_cmp (nat_cmp k) m n None → (q : ℕ) → q ≢ k → btree.get nat_cmp n q ≡ btree.get nat_cmp m q
others_taken m n k u q other = u.2 q (unsigned_tied k q ∙ not_same k q (λ same. other (sym same)))

-- what becomes of the map where the lookup of a nonce is taken out
module _ (m n : FinMap nat_cmp Pending) (t nonce : ℕ) (has : HasNonce m t nonce) where
  pub taken_out : (o : Option TicketedLookup) → IfSome o (λ w. n ≡ remove m w.ticket) → IfSome o (λ w. (u : ℕ) → HasNonce m u nonce → w.ticket ≡ u) → IfNone o (IsUnknown m nonce) → n ≡ remove m t
  taken_out None taken only none = absurd (none t has.0 has.1 has.2)
  taken_out (Some w) taken only none = taken ∙ ap (remove m) (only t has)

  pub is_taken : (o : Option TicketedLookup) → IfNone o (IsUnknown m nonce) → is_some o ≡ true
  is_taken None none = absurd (none t has.0 has.1 has.2)
  is_taken (Some w) none = refl

-- what isn't there is gone as it is
pub absent_removed : (m : FinMap nat_cmp Pending) (t : ℕ) → finite.get m t ≡ None → m ≡ remove m t
absent_removed m t gone = same_numbers _ _ (λ q. elim (cases_eq q t) [
  | inl same ↦ rw same (gone ∙ sym (get-remove_same m t))
  | inr other ↦ sym (get-remove_other m t q other)
])
