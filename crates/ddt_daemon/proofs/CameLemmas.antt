-- Each request that is remembered has come.
use Rattle.std.proofs.Common.{◌≡◌, ℕ, List, [], ◌∷◌, ◌++◌, Option, Some, None, Ok, refl, sym, ap, ◌∙◌, arith, ◌⊎◌, inl, inr}
use Rattle.std.proofs.lemmas.Bool.{cases_eq}
use Rattle.std.proofs.lemmas.Option.{none-some, same_Some}
use Rattle.std.proofs.lemmas.List.Elements.{Contains-append_left, Contains-append_right}
use Rattle.ddt_path.specs.declared.locator.Locator.{Locator}
use Rattle.ddt_sockets.specs.declared.wire_calls.Call.{Call}
use Rattle.ddt_sockets.specs.declared.wire_calls.Packet.{Packet}
use Rattle.ddt_resolver.specs.declared.itr_messages.ItrRequest.{ItrRequest}
use Rattle.ddt_loop.specs.Polls.{polled}
use Rattle.ddt_foreign.specs.Request.{request_in}
use Rattle.ddt_daemon.specs.Requests.{classified}
use Rattle.ddt_config.specs.declared.settings.resolver_settings.Settings.{Settings}
use Rattle.ddt_daemon.specs.declared.recent_requests.Recent.{Recent}
use Rattle.ddt_daemon.specs.Recent.{coming, place_of, recent_in, in_place, no_memory, Remembers, IsNew}
use Rattle.ddt_daemon.specs.Resolving.{Resolving, resolving, at_moment}
use Rattle.ddt_daemon.specs.Rounds as rounds
use Rattle.ddt_daemon.specs.Rounds.{KeepsAsked, at_once, waits, IsHeard, IsHandled, IsRound, no_packet, failed, came}
use Rattle.ddt_daemon.specs.Runs.{HasServed, begins, round, tick, hastening, resending, forgetting, waiting, renewal, IsAny, HasCome, OnlyWhatCameIsLooped}

-- what is remembered after a request came is that request, or was remembered
it_or_old : {old new : List (Option Recent)} (it : Recent) → Remembers old it new → (place : ℕ) (r : Recent) → recent_in new place ≡ Some r → (r ≡ it) ⊎ (recent_in old place ≡ Some r)
it_or_old it (no_memory few same) place r is = inr (rw same at is)
it_or_old it (in_place there others) place r is = elim (cases_eq place (place_of it)) [
  | inl same ↦ inl (same_Some r it (sym (rw same at is) ∙ there))
  | inr apart ↦ inr (sym (others place apart) ∙ is)
]

-- Over some calls what is remembered stays, or one more request is, which came by these calls.
data RemembersBy (me : Locator) (near : List Call) (old new : List (Option Recent)) : Type 0 where
  nothing : new ≡ old → RemembersBy me near old new
  one : (it : Recent) → HasCome me near it → IsNew old it new → RemembersBy me near old new

asked_recent : {servers : List Locator} {from : Locator} {bytes : List ℕ} {q : ItrRequest} {w new : Resolving} → KeepsAsked servers from bytes q w new → new.recent ≡ w.recent
asked_recent (at_once desk kept counts recent) = recent
asked_recent (waits k s desk kept counts recent) = recent

heard_recent : {me : Locator} {now : ℕ} {p : Packet} {bytes : List ℕ} {w new : Resolving} {near far : List Call} → IsHeard me now p bytes w near far new → new.recent ≡ w.recent
heard_recent (rounds.other_port port is off stays) = ap (λ (v : Resolving). v.recent) stays
heard_recent (rounds.lost_whole t l port its gives is off stays) = ap (λ (v : Resolving). v.recent) stays
heard_recent (rounds.spelled plain port spell (rounds.lost wide is off stays)) = ap (λ (v : Resolving). v.recent) stays
heard_recent (rounds.spelled plain port spell (rounds.whole cuts h)) = h.recent
heard_recent (rounds.spelled plain port spell (rounds.cut heard cuts h)) = h.recent

asked_now : (me : Locator) (now : ℕ) (settings : Settings) (p : Packet) (bytes : List ℕ) (near : List Call) (q : ItrRequest)
    → classified settings.listen (request_in bytes) ≡ Ok q
    → HasCome me (polled me (Ok (Some p)) bytes ∷ near) (coming q p.from now)
asked_now me now settings p bytes near q asks =
    record { packet = p; bytes = bytes; polled_it = (0, omega arith, refl); source = refl; asks = (settings.listen, asks) }

handled_recent : (me : Locator) (settings : Settings) (now : ℕ) (p : Packet) (bytes : List ℕ) (w new : Resolving) (near far : List Call) → IsHandled settings me now p bytes w near far new
    → RemembersBy me (polled me (Ok (Some p)) bytes ∷ near) w.recent new.recent
handled_recent me settings now p bytes w new near far (rounds.dropped why v sort is passes is_none off stays) = nothing (ap (λ (v : Resolving). v.recent) stays)
handled_recent me settings now p bytes w new near far (rounds.answered q o sort admitted its tells off stays) = nothing (ap (λ (v : Resolving). v.recent) stays)
handled_recent me settings now p bytes w new near far (rounds.shared q k recent sort admitted kept own fresh is_none off stays) =
    one (coming q p.from now) (asked_now me now settings p bytes near q admitted.may.asks) (rw stays fresh)
handled_recent me settings now p bytes w new near far (rounds.asked q servers recent sort admitted placed fresh act off keeps) =
    one (coming q p.from now) (asked_now me now settings p bytes near q admitted.may.asks) (rw (asked_recent keeps) fresh)
handled_recent me settings now p bytes w new near far (rounds.heard sort is) = nothing (heard_recent is)

round_recent : (me : Locator) (settings : Settings) (now : ℕ) (w new : Resolving) (near far : List Call) → IsRound settings me now w near far new → RemembersBy me near w.recent new.recent
round_recent me settings now w new near far (no_packet is off stays) = nothing (ap (λ (v : Resolving). v.recent) stays)
round_recent me settings now w new near far (failed fault is off stays) = nothing (ap (λ (v : Resolving). v.recent) stays)
round_recent me settings now w new near far (came p bytes tries is handled) = rw is (handled_recent me settings now p bytes w new tries far handled)

-- each request that is remembered has come by these calls
abbrev AllCame : Locator → List Call → List (Option Recent) → Type 0
AllCame me calls recent = (place : ℕ) (r : Recent) → recent_in recent place ≡ Some r → HasCome me calls r

came_before : {me : Locator} {calls : List Call} (more : List Call) {r : Recent} → HasCome me calls r → HasCome me (calls ++ more) r
came_before {calls = calls} more it = record {
  packet = it.packet;
  bytes = it.bytes;
  polled_it = Contains-append_left calls more _ it.polled_it;
  source = it.source;
  asks = it.asks;
}

came_later : {me : Locator} (calls : List Call) {more : List Call} {r : Recent} → HasCome me more r → HasCome me (calls ++ more) r
came_later calls {more = more} it = record {
  packet = it.packet;
  bytes = it.bytes;
  polled_it = Contains-append_right calls more _ it.polled_it;
  source = it.source;
  asks = it.asks;
}

same_came : {me : Locator} {calls : List Call} (more : List Call) {old new : List (Option Recent)} → AllCame me calls old → new ≡ old → AllCame me (calls ++ more) new
same_came more all same place r is = came_before more (all place r (rw same at is))

more_came : {me : Locator} {calls : List Call} (more : List Call) {old new : List (Option Recent)} → AllCame me calls old → RemembersBy me more old new → AllCame me (calls ++ more) new
more_came more all (nothing same) place r is = same_came more all same place r is
more_came {calls = calls} more all (one it its fresh) place r is = elim (it_or_old it fresh.remembers place r is) [
  | inl same ↦ rw same (came_later calls its)
  | inr before ↦ came_before more (all place r before)
]

all_came : (me : Locator) (start : Resolving) (calls onward : List Call) (w : Resolving) → start.recent ≡ [] → HasServed IsAny me start calls onward w → AllCame me calls w.recent
all_came me start calls onward w empty begins = λ place r is. absurd (none-some r (rw empty at is))
all_came me start calls onward w empty (round {calls = before} {onward = far_before} {w = v} settings now near far new so_far le is) =
    more_came near (all_came me start before far_before v empty so_far) (round_recent me settings now v new near far is)
all_came me start calls onward w empty (tick {calls = before} {onward = far_before} {w = v} now near far new so_far le is) =
    same_came near (all_came me start before far_before v empty so_far) is.recent
all_came me start calls onward w empty (hastening {calls = before} {onward = far_before} {w = v} now nonce near far new so_far le is) =
    same_came near (all_came me start before far_before v empty so_far) is.recent
all_came me start calls onward w empty (resending {calls = before} {w = v} nonce near so_far is) = same_came near (all_came me start before onward v empty so_far) refl
all_came me start calls onward w empty (forgetting {w = v} p so_far) = all_came me start calls onward v empty so_far
all_came me start calls onward w empty (waiting {w = v} now so_far le) = all_came me start calls onward v empty so_far
all_came me start calls onward w empty (renewal {w = v} new so_far may later) = all_came me start calls onward v empty so_far

pub only_what_came : OnlyWhatCameIsLooped
only_what_came me start calls onward w empty served settings now from bytes dropped =
    let before = dropped.2 in (
      dropped.0,
      before.0,
      (settings.listen, dropped.1.admitted.may.asks),
      all_came me start calls onward w empty served (place_of (coming dropped.0 from now)) before.0 before.1,
      before.2,
    )
