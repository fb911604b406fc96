-- The requests that wait for a lookup that has ended: their outcome, and where they go on to.
use Rattle.std.proofs.lemmas.Bool.{eqb-true}
use Rattle.std.proofs.Common.{◌≡◌, ℕ, ◌==◌, Bool, true, false, List, [], ◌∷◌, ◌++◌, Option, Some, None, Result, Ok, Err, refl, subst}
use Rattle.std.specs.Prelude.{All}
use Rattle.std.proofs.lemmas.List.Elements.{All-nil, All-cons, All-head, All-tail, All-append}
use Rattle.ddt_path.specs.declared.locator.Locator.{Locator}
use Rattle.ddt_path.specs.declared.record.Outcome.{Outcome}
use Rattle.ddt_path.specs.declared.record.Outcome.TheVariants.{Registered, NotRegistered, Hole}
use Rattle.ddt_path.specs.Path.{xeid_path}
use Rattle.ddt_register.specs.declared.register.Register.{Register}
use Rattle.ddt_ecm.specs.UdpHeader.{control_port}
use Rattle.ddt_sockets.specs.declared.wire_calls.Call.{Call}
use Rattle.ddt_sockets.specs.declared.wire_calls.Call.TheVariants.{Received, Tried}
use Rattle.ddt_sockets.specs.declared.wire_calls.NetFault.{NetFault}
use Rattle.ddt_sockets.specs.Turns.{AreTried}
use Rattle.ddt_resolver.specs.declared.itr_messages.ItrRequest.{ItrRequest}
use Rattle.ddt_resolver.specs.declared.results.Why.{Why}
use Rattle.ddt_resolver.specs.State.{State}
use Rattle.ddt_loop.specs.declared.packet_outcome.Ended.{Ended as End}
use Rattle.ddt_loop.specs.Runs.{MayEndBy}
use Rattle.ddt_daemon.specs.declared.itr_requests.WaitingRequest.{WaitingRequest}
use Rattle.ddt_daemon.specs.Goes.{goes_on, Closes, starts, one, Follows}
use Rattle.ddt_daemon.specs.Onward.{with_d, to_server}
use Rattle.ddt_daemon.specs.Requests.{AsksFor}
use Rattle.ddt_laws.specs.PositiveEnds.{Finished, requests_for, finished, GoesToAssigned}
use Rattle.ddt_laws.proofs.PositiveEndsLemmas.ForLemmas.{IsFor, Carries}
use Rattle.ddt_laws.proofs.PositiveEndsLemmas.SayLemmas.{IsAssignedBy}

-- the bytes of what waits are its request, and the lookup that it waits for is for what it asks
pub record IsKept (s : State) (k : WaitingRequest) : Type 0 where
  pub asks : AsksFor k.bytes k.request
  pub lookup : IsFor s k.ticket k.request.xeid

pub all_kept : {s new : State} → Carries s new → (kept : List WaitingRequest) → All (IsKept s) kept → All (IsKept new) kept
all_kept on kept all i d lt = let k = all i d lt in record { asks = k.asks; lookup = on _ _ k.lookup }

take_out : (s : State) (before after : List WaitingRequest) (k : WaitingRequest) → All (IsKept s) (before ++ k ∷ after) → IsKept s k × All (IsKept s) (before ++ after)
take_out s [] after k all = (All-head (IsKept s) k after all, All-tail (IsKept s) k after all)
take_out s (b ∷ before) after k all =
    let rest = take_out s before after k (All-tail (IsKept s) b (before ++ k ∷ after) all) in
    (rest.0, All-cons (IsKept s) b (before ++ after) (All-head (IsKept s) b (before ++ k ∷ after) all) rest.1)

-- ---- the outcome

-- what holds of the end of a lookup for each request that waited for it
abbrev pub OfAll : (ℕ → Result Outcome Why → ItrRequest → Type 0) → Finished → Type 0
OfAll Good f = All (Good f.ticket f.end) f.requests

-- it holds for the request that a lookup began for, and for each that knows its ticket
pub record EndsWell (Good : ℕ → Result Outcome Why → ItrRequest → Type 0) (s : State) (e : End) (begun_for : ItrRequest) : Type 0 where
  pub first : Good e.ticket e.end begun_for
  pub others : (q : ItrRequest) → IsFor s e.ticket q.xeid → Good e.ticket e.end q

module _ (Good : ItrRequest → Type 0) (s : State) (t : ℕ) (each : (q : ItrRequest) → IsFor s t q.xeid → Good q) where
  requests_cons : (k : WaitingRequest) (kept : List WaitingRequest) (b : Bool) → (k.ticket == t) ≡ b → IsKept s k → All Good (requests_for t kept) → All Good (requests_for t (k ∷ kept))
  requests_cons k kept true e is all =
      let own : IsFor s t k.request.xeid = subst (λ (u : ℕ). IsFor s u k.request.xeid) (eqb-true k.ticket t e) is.lookup in
      rw e (All-cons Good k.request (requests_for t kept) (each k.request own) all)
  requests_cons k kept false e is all = rw e all

  requests_all : (kept : List WaitingRequest) → All (IsKept s) kept → All Good (requests_for t kept)
  requests_all [] all = All-nil Good
  requests_all (k ∷ kept) all = requests_cons k kept (k.ticket == t) refl (All-head (IsKept s) k kept all) (requests_all kept (All-tail (IsKept s) k kept all))

-- so it holds of the lookup that may have ended
pub finished_well : (Good : ℕ → Result Outcome Why → ItrRequest → Type 0) {s : State} {Ends : End → Type 0} (begun_for : (e : End) → Ends e → ItrRequest) (kept : List WaitingRequest)
    (ended : Option End) (ends : MayEndBy Ends ended) → ((e : End) (by_ : Ends e) → EndsWell Good s e (begun_for e by_)) → All (IsKept s) kept
    → All (OfAll Good) (finished begun_for kept ended ends)
finished_well Good begun_for kept None ends well all = All-nil (OfAll Good)
finished_well Good {s} begun_for kept (Some e) ends well all =
    let is = well e ends in
    All-cons (OfAll Good) (record { ticket = e.ticket; end = e.end; requests = begun_for e ends ∷ requests_for e.ticket kept }) []
    (All-cons (Good e.ticket e.end) (begun_for e ends) (requests_for e.ticket kept) is.first (requests_all (Good e.ticket e.end) s e.ticket is.others kept all)) (All-nil (OfAll Good))

-- ---- who waits on

kept_closed : {s : State} {me : Locator} {by_ : Option Locator} {e : End} {old : List WaitingRequest} {near far : List Call} {left : List WaitingRequest} → Closes me by_ e old near far left
    → All (IsKept s) old → All (IsKept s) left
kept_closed starts all = all
kept_closed {s} (one before after k told on so_far was apart its t tried) all =
    (take_out s before after k (subst (λ (kept : List WaitingRequest). All (IsKept s) kept) was (kept_closed so_far all))).1

pub kept_followed : {s : State} (me : Locator) (by_ : Option Locator) (ended : Option End) (old : List WaitingRequest) (near far : List Call) (new : List WaitingRequest)
    → Follows me by_ ended old near far new → All (IsKept s) old → All (IsKept s) new
kept_followed me by_ None old near far new is all = rw is.2 all
kept_followed me by_ (Some e) old near far new is all = kept_closed is.closes all

-- ---- where they go on to

-- what holds of what goes on for each request that waits for a lookup which has ended
abbrev pub AllGo : Locator → State → (Call → Type 0) → Option Locator → End → Type 0
AllGo me s Goes by_ e =
    (k : WaitingRequest) → IsKept s k → k.ticket ≡ e.ticket → (on : List Call) → AreTried me (goes_on by_ e.end k.bytes) on → All Goes on

module _ (me : Locator) (s : State) (Goes : Call → Type 0) where
  closed : {by_ : Option Locator} {e : End} {old : List WaitingRequest} {near far : List Call} {left : List WaitingRequest} → Closes me by_ e old near far left → AllGo me s Goes by_ e
      → All (IsKept s) old → All Goes far
  closed starts go all = All-nil Goes
  closed (one {far = far} before after k told on so_far was apart its t tried) go all =
      let here = (take_out s before after k (subst (λ (kept : List WaitingRequest). All (IsKept s) kept) was (kept_closed so_far all))).0 in
      All-append Goes far on (closed so_far go all) (go k here its on tried)

  pub followed : {Ends : End → Type 0} (by_ : Option Locator) (ended : Option End) (old : List WaitingRequest) (near far : List Call) (new : List WaitingRequest) → Follows me by_ ended old near far new
      → MayEndBy Ends ended → ((e : End) → Ends e → AllGo me s Goes by_ e) → All (IsKept s) old → All Goes far
  followed by_ None old near far new is ends go all = rw is.1 (All-nil Goes)
  followed by_ (Some e) old near far new is ends go all = closed is.closes (go e ends) all

  -- where no datagram has ended it, nothing does
  pub none_go : (e : End) → AllGo me s Goes None e
  none_go e k is its [] tried = All-nil Goes
  none_go e k is its (call ∷ on) tried = absurd tried

-- a call to a server by which the request that waits goes on
abbrev pub onward_to : Locator → Locator → WaitingRequest → Result (Unit {0}) NetFault → Call
onward_to me by_ k answer = Tried me by_ control_port (with_d k.bytes) answer

module _ (me : Locator) (s : State) (Goes : Call → Type 0) where
  none_onward : (far : List Call) → AreTried me [] far → All Goes far
  none_onward [] tried = All-nil Goes
  none_onward (call ∷ far) tried = absurd tried

  one_onward : (by_ : Locator) (k : WaitingRequest) (far : List Call) → ((answer : Result (Unit {0}) NetFault) → Goes (onward_to me by_ k answer)) → AreTried me (to_server by_ k.bytes ∷ []) far → All Goes far
  one_onward by_ k [] goes tried = absurd tried
  one_onward by_ k (Received at room answer b ∷ far) goes tried = absurd tried.0
  one_onward by_ k (Tried from to port b answer ∷ (c ∷ far)) goes tried = absurd tried.1
  one_onward by_ k (Tried from to port b answer ∷ []) goes tried =
      let is : Tried from to port b answer ≡ onward_to me by_ k answer = cc (tried.0.0, tried.0.1, tried.0.2, tried.0.3) in
      All-cons Goes (Tried from to port b answer) [] (rw is (goes answer)) (All-nil Goes)

  went_on : (b : Locator) (e : End) (end : Result Outcome Why) (k : WaitingRequest) (far : List Call) → e.end ≡ end
      → ((p : List ℕ) (servers : List Locator) → e.end ≡ Ok (Registered p servers) → (answer : Result (Unit {0}) NetFault) → Goes (onward_to me b k answer))
      → AreTried me (goes_on (Some b) end k.bytes) far → All Goes far
  went_on b e (Ok (Registered p servers)) k far same goes tried = one_onward b k far (goes p servers same) tried
  went_on b e (Ok (NotRegistered p servers)) k far same goes tried = none_onward far tried
  went_on b e (Ok (Hole p)) k far same goes tried = none_onward far tried
  went_on b e (Err why) k far same goes tried = none_onward far tried

  -- a request goes on to a server only where its lookup has ended as registered
  pub go_registered : (b : Locator) (e : End)
      → ((p : List ℕ) (servers : List Locator) → e.end ≡ Ok (Registered p servers) → (k : WaitingRequest) → AsksFor k.bytes k.request → IsFor s e.ticket k.request.xeid
      → (answer : Result (Unit {0}) NetFault) → Goes (onward_to me b k answer))
      → AllGo me s Goes (Some b) e
  go_registered b e goes k is its on tried =
      let own : IsFor s e.ticket k.request.xeid = subst (λ (u : ℕ). IsFor s u k.request.xeid) its is.lookup in
      went_on b e e.end k on refl (λ p servers same. goes p servers same k is.asks own) tried

-- ---- to the servers that are assigned

-- a lookup that a server's datagram has ended as registered is assigned so, and this is one of its servers
abbrev pub EndsAt : Register → State → Locator → End → Type 0
EndsAt r s server e =
    (p : List ℕ) (servers : List Locator) → e.end ≡ Ok (Registered p servers) → (q : ItrRequest) → IsFor s e.ticket q.xeid
    → IsAssignedBy r (xeid_path q.xeid) p servers server

pub go_assigned : {r : Register} {me : Locator} {s : State} (b : Locator) (e : End) → EndsAt r s b e → AllGo me s (GoesToAssigned r me) (Some b) e
go_assigned {r} {me} {s} b e at = go_registered me s (GoesToAssigned r me) b e (λ p servers same k asks_it own answer.
    let is = at p servers same k.request own in
    record {
      onward = record {
        to = b;
        request = k.request;
        bytes = k.bytes;
        answer = answer;
        asks = asks_it;
        is = refl;
      };
      prefix = p;
      servers = servers;
      registered = is.registered;
      among_them = is.among_them;
    })
