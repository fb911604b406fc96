-- The requests that wait for a lookup which has ended are closed.
use Rattle.std.proofs.Common.{◌≡◌, ℕ, ◌<◌, ◌+◌, Bool, true, false, List, [], ◌∷◌, ◌++◌, append-nil, append_assoc, length, Option, Some, None, Result, Ok, Err, refl, sym, ap, ◌∙◌, subst, arith}
use Rattle.std.specs.Prelude.{All, ◌≢◌, ◌==◌, not, map}
use Rattle.std.specs.List.{filter}
use Rattle.std.proofs.lemmas.Bool.{eqb-true, eq-eqb, ne_eqb}
use Rattle.std.proofs.lemmas.List.{length-append}
use Rattle.std.proofs.lemmas.List.Elements.{All-head, All-tail}
use Rattle.ddt_path.specs.declared.locator.Locator.{Locator}
use Rattle.ddt_sockets.specs.declared.wire_calls.Call.{Call}
use Rattle.ddt_sockets.specs.Turns.{AreTried}
use Rattle.ddt_resolver.specs.declared.itr_messages.ItrRequest.{ItrRequest}
use Rattle.ddt_loop.specs.declared.packet_outcome.Ended.{Ended}
use Rattle.ddt_loop.specs.Sharing as sharing_specs
use Rattle.ddt_loop.specs.Sharing.{Sharer, sharing, not_sharing, AreToldEnd, TellsSharers}
use Rattle.ddt_daemon.specs.declared.itr_requests.WaitingRequest.{WaitingRequest}
use Rattle.ddt_daemon.specs.WaitingRequest.{TakesKept, nobody, somebody}
use Rattle.ddt_daemon.specs.Goes.{sharers, sharer_if, IsSharerTold, goes_on, Closes, starts, one, AreClosed, Follows}

pub closed_one : {me : Locator} {by : Option Locator} {e : Ended} {old left new : List WaitingRequest} {near far : List Call} (k : WaitingRequest) (told on : List Call)
    → Closes me by e old near far left → TakesKept e.ticket left new (Some k) → IsSharerTold me e.end k.begins k told → AreTried me (goes_on by e.end k.bytes) on
    → Closes me by e old (near ++ told) (far ++ on) new
closed_one k told on so_far (nobody none is f) t o = absurd (cc f)
closed_one k told on so_far (somebody before after j none its was is f) t o =
    let same : k ≡ j = cc f in rw is (one before after j told on so_far was none its (rw same at t) (rw same at o))

pub fewer_left : {t : ℕ} {left new : List WaitingRequest} (k : WaitingRequest) → TakesKept t left new (Some k)
    → length new < length left
fewer_left k (nobody none is f) = absurd (cc f)
fewer_left k (somebody before after j none its was is f) =
    rw (was, is) (omega (arith, length-append before after, length-append before (j ∷ after)))

pub none_left : {me : Locator} {by : Option Locator} {e : Ended} {old left new : List WaitingRequest}
    {near far : List Call}
    → Closes me by e old near far left → TakesKept e.ticket left new None → AreClosed me by e old near far new
none_left so_far (nobody none is f) = rw is (record { closes = so_far; nobody = none })
none_left so_far (somebody before after j none its was is f) = absurd (cc f)

-- ---- those who share lookups

pub sharers_append : (before after : List WaitingRequest) → sharers (before ++ after) ≡ sharers before ++ sharers after
sharers_append [] after = refl
sharers_append (k ∷ before) after = rw (sharers_append before after, append_assoc)

sharing_append : (t : ℕ) (a b : List Sharer) → sharing t (a ++ b) ≡ sharing t a ++ sharing t b
sharing_append t [] b = refl
sharing_append t (j ∷ a) b = sharing_cons t j a b (j.ticket == t) refl (sharing_append t a b)
  where
    sharing_cons : (t : ℕ) (j : Sharer) (a b : List Sharer) (is : Bool) → (j.ticket == t) ≡ is → sharing t (a ++ b) ≡ sharing t a ++ sharing t b
        → sharing t (j ∷ (a ++ b)) ≡ sharing t (j ∷ a) ++ sharing t b
    sharing_cons t j a b true e ih = rw (e, ih)
    sharing_cons t j a b false e ih = rw (e, ih)

not_sharing_append : (t : ℕ) (a b : List Sharer) → not_sharing t (a ++ b) ≡ not_sharing t a ++ not_sharing t b
not_sharing_append t [] b = refl
not_sharing_append t (j ∷ a) b = not_sharing_cons t j a b (j.ticket == t) refl (not_sharing_append t a b)
  where
    not_sharing_cons : (t : ℕ) (j : Sharer) (a b : List Sharer) (is : Bool) → (j.ticket == t) ≡ is → not_sharing t (a ++ b) ≡ not_sharing t a ++ not_sharing t b
        → not_sharing t (j ∷ (a ++ b)) ≡ not_sharing t (j ∷ a) ++ not_sharing t b
    not_sharing_cons t j a b true e ih = rw (e, ih)
    not_sharing_cons t j a b false e ih = rw (e, ih)

other_sharing : (t : ℕ) (k : WaitingRequest) (b : Option (List Locator)) → k.ticket ≢ t → sharing t (sharer_if b k) ≡ []
other_sharing t k None apart = rw (ne_eqb k.ticket t apart)
other_sharing t k (Some servers) apart = refl

other_not_sharing : (t : ℕ) (k : WaitingRequest) (b : Option (List Locator)) → k.ticket ≢ t → not_sharing t (sharer_if b k) ≡ sharer_if b k
other_not_sharing t k None apart = rw (ne_eqb k.ticket t apart)
other_not_sharing t k (Some servers) apart = refl

-- where none waits for a lookup, none shares it
pub none_sharing : (t : ℕ) (kept : List WaitingRequest) → All (λ k. k.ticket ≢ t) kept → sharing t (sharers kept) ≡ []
none_sharing t [] none = refl
none_sharing t (k ∷ kept) none =
    sharing_append t (sharer_if k.begins k) (sharers kept)
    ∙ ap (λ rest. sharing t (sharer_if k.begins k) ++ rest) (none_sharing t kept (All-tail (λ k. k.ticket ≢ t) k kept none))
    ∙ append-nil (sharing t (sharer_if k.begins k)) ∙ other_sharing t k k.begins (All-head (λ k. k.ticket ≢ t) k kept none)

pub all_not_sharing : (t : ℕ) (kept : List WaitingRequest) → All (λ k. k.ticket ≢ t) kept → not_sharing t (sharers kept) ≡ sharers kept
all_not_sharing t [] none = refl
all_not_sharing t (k ∷ kept) none =
    not_sharing_append t (sharer_if k.begins k) (sharers kept)
    ∙ ap (λ rest. not_sharing t (sharer_if k.begins k) ++ rest) (all_not_sharing t kept (All-tail (λ k. k.ticket ≢ t) k kept none))
    ∙ ap (λ first. first ++ sharers kept) (other_not_sharing t k k.begins (All-head (λ k. k.ticket ≢ t) k kept none))

own_not_sharing : (t : ℕ) (k : WaitingRequest) (b : Option (List Locator)) → k.ticket ≡ t
    → not_sharing t (sharer_if b k) ≡ []
own_not_sharing t k None same = rw (eq-eqb k.ticket t same)
own_not_sharing t k (Some servers) same = refl

-- one that is closed shares the lookup no more, and the others share on
not_sharing_without : (t : ℕ) (before after : List WaitingRequest) (k : WaitingRequest) → k.ticket ≡ t → not_sharing t (sharers (before ++ k ∷ after)) ≡ not_sharing t (sharers (before ++ after))
not_sharing_without t before after k same =
    ap (not_sharing t) (sharers_append before (k ∷ after)) ∙ not_sharing_append t (sharers before) (sharer_if k.begins k ++ sharers after)
    ∙ ap (λ rest. not_sharing t (sharers before) ++ rest) (not_sharing_append t (sharer_if k.begins k) (sharers after) ∙ ap (λ first. first ++ not_sharing t (sharers after)) (own_not_sharing t k k.begins same))
    ∙ sym (not_sharing_append t (sharers before) (sharers after)) ∙ sym (ap (not_sharing t) (sharers_append before after))

told_first : {me : Locator} {e : Ended} (k : WaitingRequest) (b : Option (List Locator)) (told others : List Call) (rest : List Sharer) → k.ticket ≡ e.ticket → IsSharerTold me e.end b k told
    → AreToldEnd me e.end (sharing e.ticket rest) others → AreToldEnd me e.end (sharing e.ticket (sharer_if b k ++ rest)) (told ++ others)
told_first {e = e} k None told others rest same t later = rw (eq-eqb k.ticket e.ticket same) (sharing_specs.one k.request (sharing e.ticket rest) told others t later)
told_first k (Some servers) told others rest same t later = rw t later

front_sharing : (t : ℕ) (before after : List WaitingRequest) → All (λ k. k.ticket ≢ t) before → sharing t (sharers (before ++ after)) ≡ sharing t (sharers after)
front_sharing t before after none =
    ap (sharing t) (sharers_append before after) ∙ sharing_append t (sharers before) (sharers after)
    ∙ ap (λ first. first ++ sharing t (sharers after)) (none_sharing t before none)

-- what was told so far, and what is told later, is told to all who shared the lookup
told_in_all : {me : Locator} {by : Option Locator} {e : Ended} {old left : List WaitingRequest} {near far : List Call} → Closes me by e old near far left → (others : List Call)
    → AreToldEnd me e.end (sharing e.ticket (sharers left)) others
    → AreToldEnd me e.end (sharing e.ticket (sharers old)) (near ++ others) × (not_sharing e.ticket (sharers left) ≡ not_sharing e.ticket (sharers old))
told_in_all starts others later = (later, refl)
told_in_all {me} {e = e} (one {near = near} {left = left} before after k told on so_far was none its t o) others later =
    let after_k : AreToldEnd me e.end (sharing e.ticket (sharers after)) others = rw (front_sharing e.ticket before after none) at later in
    let with_k = told_first k k.begins told others (sharers after) its t after_k in
    let front : sharing e.ticket (sharers left) ≡ sharing e.ticket (sharer_if k.begins k ++ sharers after) = ap (λ l. sharing e.ticket (sharers l)) was ∙ front_sharing e.ticket before (k ∷ after) none in
    let first = told_in_all so_far (told ++ others) (subst (λ qs. AreToldEnd me e.end qs (told ++ others)) (sym front) with_k) in
    (rw append_assoc first.0, sym (not_sharing_without e.ticket before after k its) ∙ sym (ap (λ l. not_sharing e.ticket (sharers l)) was) ∙ first.1)

pub tells_sharers : (me : Locator) (by : Option Locator) (ended : Option Ended) (old : List WaitingRequest) (near far : List Call) (new : List WaitingRequest) → Follows me by ended old near far new
    → TellsSharers me (sharers old) ended near (sharers new)
tells_sharers me by None old near far new follows = rw (follows.0, follows.2) sharing_specs.wait_on
tells_sharers me by (Some e) old near far new follows =
    let all = told_in_all follows.closes [] (subst (λ qs. AreToldEnd me e.end qs []) (sym (none_sharing e.ticket new follows.nobody)) sharing_specs.nobody) in
    let left : sharers new ≡ not_sharing e.ticket (sharers old) = sym (all_not_sharing e.ticket new follows.nobody) ∙ all.1 in
    rw left (sharing_specs.told e near (rw append-nil at all.0))
