-- What an act does to the state of a resolver: time passes, it makes a step, or a lookup is hastened.
use Rattle.std.proofs.Common.{◌≡◌, ℕ, List, [], ◌∷◌, Option, Result, Ok, Err, refl, Contains}
use Rattle.std.proofs.lemmas.List.Elements.{Contains-append_left, Contains-push}
use Rattle.ddt_path.specs.declared.locator.Locator.{Locator}
use Rattle.ddt_path.specs.declared.record.Outcome.{Outcome}
use Rattle.ddt_path.specs.declared.xeid.Xeid.{Xeid}
use Rattle.ddt_sockets.specs.declared.wire_calls.Call.{Call}
use Rattle.ddt_sockets.specs.declared.wire_calls.Call.TheVariants.{Received, Tried}
use Rattle.ddt_sockets.specs.declared.wire_calls.NetFault.{NetFault}
use Rattle.ddt_sockets.specs.declared.wire_calls.Packet.{Packet}
use Rattle.ddt_resolver.specs.declared.itr_messages.ItrRequest.{ItrRequest}
use Rattle.ddt_resolver.specs.declared.results.Asked.TheVariants as asked_as
use Rattle.ddt_resolver.specs.declared.results.AskError.{AskError}
use Rattle.ddt_resolver.specs.declared.results.Outgoing.{Outgoing}
use Rattle.ddt_resolver.specs.declared.results.Ticked.{Ticked}
use Rattle.ddt_resolver.specs.declared.step.Progress.{Progress}
use Rattle.ddt_resolver.specs.declared.step.Progress.TheVariants.{Stays, Sends, Ends}
use Rattle.ddt_resolver.specs.declared.step.Reply.{Reply}
use Rattle.ddt_resolver.specs.declared.step.Reply.TheVariants.{ToAsk, ToTick}
use Rattle.ddt_resolver.specs.State.{State, moved}
use Rattle.ddt_resolver.specs.Step.{ResolverCall, Ask, Hear, Tick, Step, progress_of}
use Rattle.ddt_resolver.specs.TickStep.{HastenStep}
use Rattle.ddt_loop.specs.declared.requester.Requester.{Requester}
use Rattle.ddt_loop.specs.Requesters.{Desk}
use Rattle.ddt_loop.specs.Acts as acts
use Rattle.ddt_loop.specs.Acts.{Running, IsSent, Asks, answered, refused, lacks_memory, AsksForItr, Proceeds, HearsOrTicks, Hastens}
use Rattle.ddt_loop.specs.Polls.{IsPacketTaken, asks, no_request, hears, other_port}

-- a datagram of the resolver was tried among these calls
abbrev pub WasSent : Locator → Outgoing → List Call → Type 0
WasSent me d tries = (answer : Result (Unit {0}) NetFault) × Contains tries (Tried me d.to d.port d.bytes answer)

-- what a reply sends was tried
abbrev pub SendsIn : Locator → Reply → List Call → Type 0
SendsIn me a tries = (t : ℕ) (d : Outgoing) → progress_of a ≡ Sends t d → WasSent me d tries

-- The change at a moment, by calls of which something holds. `same`: none. `later`: time passes. `stepped`: the resolver
-- makes a step, and what it sends is tried. `hastened`: so it is with a lookup that is hastened.
pub data Change (me : Locator) (now : ℕ) (holds : ResolverCall → Type 0) (s new : State) (tries : List Call) : Type 0 where
  same : new ≡ s → Change me now holds s new tries
  later : new ≡ moved now s → Change me now holds s new tries
  stepped : (call : ResolverCall) (a : Reply) → holds call → Step (moved now s) call new a → SendsIn me a tries → Change me now holds s new tries
  hastened : (nonce : ℕ) (ticked : Ticked) → HastenStep (moved now s) nonce new ticked → SendsIn me (ToTick ticked) tries → Change me now holds s new tries

was_sent : (me : Locator) (d : Outgoing) (tries : List Call) → IsSent me d tries → WasSent me d tries
was_sent me d [] tried = absurd tried
was_sent me d (Received at room answer bytes ∷ rest) tried = absurd tried.0
was_sent me d (Tried at to port bytes answer ∷ []) tried =
    let same : Tried at to port bytes answer ≡ Tried me d.to d.port d.bytes answer = cc (tried.0.0, tried.0.1, tried.0.2, tried.0.3) in
    (answer, rw same (Contains-push [] (Tried me d.to d.port d.bytes answer)))
was_sent me d (Tried at to port bytes answer ∷ call ∷ rest) tried = absurd tried.1

sends_in : (me : Locator) (d : Desk) (p : Progress) (tries : List Call) (after : Desk) → Proceeds me d p tries after → (t : ℕ) (e : Outgoing) → p ≡ Sends t e → WasSent me e tries
sends_in me d Stays tries after goes t e is = absurd (cc is)
sends_in me d (Sends u f) tries after goes t e is = let one : f ≡ e = cc is in rw one at (was_sent me f tries goes.0)
sends_in me d (Ends u end) tries after goes t e is = absurd (cc is)

-- so it is among more calls, by calls of which something else holds
pub change_in : {me : Locator} {now : ℕ} {holds also : ResolverCall → Type 0} {s new : State} {tries near : List Call} → ((call : ResolverCall) → holds call → also call)
    → ((c : Call) → Contains tries c → Contains near c) → Change me now holds s new tries → Change me now also s new near
change_in so among (same is) = same is
change_in so among (later is) = later is
change_in so among (stepped call a fair step sent) = stepped call a (so call fair) step (λ t d is. let w = sent t d is in (w.0, among _ w.1))
change_in so among (hastened nonce ticked step sent) = hastened nonce ticked step (λ t d is. let w = sent t d is in (w.0, among _ w.1))

-- an identifier is asked for
abbrev pub IsAsk : ResolverCall → Type 0
IsAsk (Ask x) = Unit {0}
IsAsk (Hear source bytes) = ⊥
IsAsk Tick = ⊥

module _ {me : Locator} {now : ℕ} (holds : ResolverCall → Type 0) {w : Running} where
  pub change_hears : {call : ResolverCall} {tries : List Call} {new : Running} → holds call → HearsOrTicks me now call w tries new → Change me now holds w.state new.state tries
  change_hears {call} {tries} {new} fair (acts.does reply step goes) = stepped call reply fair step (sends_in me w.desk (progress_of reply) tries new.desk goes)
  change_hears fair (acts.fails wants state desk none) = later state

  pub change_hastens : {nonce : ℕ} {tries : List Call} {new : Running} → Hastens me now nonce w tries new → Change me now holds w.state new.state tries
  change_hastens {nonce} {tries} {new} (acts.does ticked step goes) = hastened nonce ticked step (sends_in me w.desk (progress_of (ToTick ticked)) tries new.desk goes)
  change_hastens (acts.fails wants state desk none) = later state

  module _ (asked : (x : Xeid) → holds (Ask x)) where
    change_asks : {x : Xeid} {who : Requester} {answer : Result (Option Outcome) AskError} {tries : List Call} {new : Running} → Asks me now x who w answer tries new → Change me now holds w.state new.state tries
    change_asks {x} {tries = tries} {new = new} (answered (asked_as.Answer o) step starting is) =
        stepped (Ask x) (ToAsk (Ok (asked_as.Answer o))) (asked x) step (sends_in me w.desk Stays tries new.desk starting)
    change_asks {x} {tries = tries} (answered (asked_as.Sent t d) step starting is) =
        stepped (Ask x) (ToAsk (Ok (asked_as.Sent t d))) (asked x) step (sends_in me w.desk (Sends t d) tries w.desk (starting.0, refl))
    change_asks {x} {tries = tries} {new = new} (refused why step desk none is) = stepped (Ask x) (ToAsk (Err why)) (asked x) step (sends_in me w.desk Stays tries new.desk (none, desk))
    change_asks (lacks_memory wants state desk none is) = later state

    pub change_for_itr : {q : ItrRequest} {tries : List Call} {new : Running} → AsksForItr me now q w tries new → Change me now holds w.state new.state tries
    change_for_itr act = rw act.calls_are (change_in (λ call is. is) (λ c k. Contains-append_left act.asking act.telling c k) (change_asks act.asks))

    pub change_taken : {p : Packet} {heard : List ℕ} {tries : List Call} {new : Running} → holds (Hear p.from heard) → IsPacketTaken me now p heard w tries new → Change me now holds w.state new.state tries
    change_taken fair (asks encapsulated q is act) = change_for_itr act
    change_taken fair (no_request encapsulated not none is) = same (rw is refl)
    change_taken fair (hears plain port act) = change_hears fair act
    change_taken fair (other_port plain port none is) = same (rw is refl)
