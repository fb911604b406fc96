-- The list of those who wait: who is taken off it, and how many there are.
use Rattle.std.proofs.Common.{◌≡◌, ℕ, zero, suc, ◌<◌, ◌≤◌, Bool, List, [], ◌∷◌, ◌++◌, length, take, drop, get_or, Option, Some, None, refl, sym, ◌∙◌, arith, nat_cmp, add-one}
use Rattle.std.specs.Prelude.{◌≢◌, ◌==◌, IsSome, All, position}
use Rattle.std.specs.List.{position_or_len, remove}
use Rattle.std.specs.Cmp.{nat_cmp_total}
use Rattle.std.specs.FinMap.{FinMap, get, len, len-remove, empty_of_len, get-empty}
use Rattle.std.specs.FinMap as map
use Rattle.std.proofs.lemmas.Bool.{eqb-true, eq-eqb, ne_eqb, false≢true}
use Rattle.std.proofs.lemmas.List.{take-append-drop, drop_more}
use Rattle.std.proofs.lemmas.List.Elements.{All-nil, All-cons, All-head, All-tail, All-push}
use Rattle.std.proofs.lemmas.List.Quantifiers.{position-Some}
use Rattle.std.proofs.lemmas.List.Sums.{fails_before_first}
use Rattle.ddt_resolver.specs.laws.NumberMap.{at_insert, at_remove}
use Rattle.ddt_loop.specs.declared.requester.Requester.TheVariants.{Identifier}
use Rattle.ddt_loop.specs.declared.requester.WaitingRequester.{WaitingRequester}
use Rattle.ddt_loop.specs.Requesters.{waiting_for, TakesOff, nobody, somebody, AreApart}

-- ---- who is taken off

module _ {V : Type 0} (m : FinMap nat_cmp V) (k q : ℕ) (other : q ≢ k) where
  pub get_insert_other : (v : V) → get (map.insert m k v) q ≡ get m q
  get_insert_other v = rw (at_insert m k v q, ne_eqb q k other)

  pub get_remove_other : get (map.remove m k) q ≡ get m q
  get_remove_other = rw (at_remove m k q, ne_eqb q k other)

pub some_of : {V : Type 0} (o : Option V) → IsSome o → (v : V) × (o ≡ Some v)
some_of None some = absurd (cc some)
some_of (Some v) some = (v, refl)

abbrev pub has_ticket : ℕ → WaitingRequester → Bool
has_ticket t o = o.ticket == t

pub nobody_at : (t : ℕ) (waiting : List WaitingRequester) → position (has_ticket t) waiting ≡ None → TakesOff t waiting waiting None
nobody_at t waiting none =
    let late : length waiting ≤ position_or_len (has_ticket t) waiting = grind arith in
    nobody (λ k d lt same. false≢true (sym (fails_before_first (has_ticket t) waiting k d (omega arith)) ∙ eq-eqb _ t same)) refl refl

pub place_within : (t : ℕ) (waiting : List WaitingRequester) (i : ℕ) → position (has_ticket t) waiting ≡ Some i → i < length waiting
place_within t waiting i found = (position-Some (has_ticket t) waiting i (waiting_for 0 (Identifier 0)) found).0

pub somebody_at : (t : ℕ) (waiting : List WaitingRequester) (i : ℕ) (o : WaitingRequester) → position (has_ticket t) waiting ≡ Some i
    → o ≡ get_or waiting i o → TakesOff t waiting (remove waiting i) (Some o.requester)
somebody_at t waiting i o found read =
    let at = position-Some (has_ticket t) waiting i o found in
    let its : o.ticket ≡ t = eqb-true o.ticket t (rw (← read) at at.1) in
    somebody (take i waiting) (drop (suc i) waiting) o.requester
    (rw (← its) (cc (take-append-drop i waiting, drop_more waiting i o at.0, add-one i))) refl refl

-- ---- what holds of each

-- of the one who is taken off, and of those who are left
parted : (P : WaitingRequester → Type 0) (before : List WaitingRequester) (o : WaitingRequester) (after : List WaitingRequester) → All P (before ++ o ∷ after) → P o × All P (before ++ after)
parted P [] o after all = (All-head P o after all, All-tail P o after all)
parted P (p ∷ before) o after all =
    let rest = parted P before o after (All-tail P p _ all) in (rest.0, All-cons P p _ (All-head P p _ all) rest.1)

apart_without : (before : List WaitingRequester) (o : WaitingRequester) (after : List WaitingRequester) → AreApart (before ++ o ∷ after)
    → AreApart (before ++ after) × All (λ p. p.ticket ≢ o.ticket) (before ++ after)
apart_without [] o after apart = (apart.1, apart.0)
apart_without (q ∷ before) o after apart =
    let rest = apart_without before o after apart.1 in
    let first = parted (λ p. p.ticket ≢ q.ticket) before o after apart.0 in
    ((first.1, rest.0), All-cons (λ p. p.ticket ≢ o.ticket) q _ (λ same. first.0 (sym same)) rest.1)

pub of_taken : {t old new who : _} → TakesOff t old new (Some who) → (P : WaitingRequester → Type 0) → All P old → P (waiting_for t who)
of_taken (nobody none e f) P all = absurd (cc f)
of_taken {t} {who = who} (somebody before after whom e f g) P all =
    let same : who ≡ whom = cc g in rw same (parted P before (waiting_for t whom) after (rw e at all)).0

-- who is left waits for another lookup
pub of_left : {t old new taken : _} → TakesOff t old new taken → (P : WaitingRequester → Type 0) → AreApart old → All P old
    → AreApart new × All (λ p. p.ticket ≢ t) new × All P new
of_left (nobody none e f) P apart all = rw e (apart, none, all)
of_left {t} (somebody before after who e f g) P apart all =
    let rest = apart_without before (waiting_for t who) after (rw e at apart) in
    rw f (rest.0, rest.1, (parted P before (waiting_for t who) after (rw e at all)).1)

pub apart_push : (waiting : List WaitingRequester) (o : WaitingRequester) → AreApart waiting → All (λ p. p.ticket ≢ o.ticket) waiting → AreApart (waiting ++ o ∷ [])
apart_push [] o apart other = (All-nil (λ p. p.ticket ≢ o.ticket), tt)
apart_push (q ∷ waiting) o apart other = (
  All-push (λ p. p.ticket ≢ q.ticket) waiting o apart.0 (λ same. All-head (λ p. p.ticket ≢ o.ticket) q waiting other (sym same)),
  apart_push waiting o apart.1 (All-tail (λ p. p.ticket ≢ o.ticket) q waiting other),
)

-- ---- how many

positive : {V : Type 0} (m : FinMap nat_cmp V) (t n : ℕ) → len m ≡ n → IsSome (get m t) → 0 < len m
positive m t zero e here = absurd (cc (rw (empty_of_len m e, get-empty nat_cmp t) at here))
positive m t (suc n) e here = omega arith

-- as many as are found in a map are no more than it has
pub few_owners : {V : Type 0} (m : FinMap nat_cmp V) (waiting : List WaitingRequester) → AreApart waiting → All (λ o. IsSome (get m o.ticket)) waiting
    → length waiting ≤ len m
few_owners m [] apart there = omega arith
few_owners m (o ∷ waiting) apart there =
    let P = λ (p : WaitingRequester). IsSome (get m p.ticket) in
    let here = All-head P o waiting there in
    let ih = few_owners (map.remove m o.ticket) waiting apart.1
    (λ i d lt. rw (get_remove_other m o.ticket _ (apart.0 i d lt)) (All-tail P o waiting there i d lt)) in
    let some = positive m o.ticket _ refl here in
    omega (arith, ih, some, rw here at (len-remove nat_cmp_total m o.ticket))
