-- What comes of a step for the ITRs that wait.
use Rattle.std.proofs.Common.{◌≡◌, [], ◌∷◌, ◌++◌, append_assoc, refl}
use Rattle.std.specs.Prelude.{Some, None, Ok, IfSome, IfNone, length}
use Rattle.ddt_resolver.specs.declared.results.Asked.TheVariants as asked_as
use Rattle.ddt_resolver.specs.Front.{IsItrRequest}
use Rattle.ddt_resolver.specs.State.{moved}
use Rattle.ddt_resolver.specs.Step.{Step, Hear, progress_of}
use Rattle.ddt_resolver.specs.declared.step.Progress.TheVariants.{Stays, Sends, Ends}
use Rattle.ddt_loop.specs.declared.requester.Requester.TheVariants.{Identifier, Itr}
use Rattle.ddt_loop.specs.Requesters.{waiting_for, with_requester, TakesOff, nobody, somebody}
use Rattle.ddt_loop.specs.Acts.{Running, Asks, answered, refused, lacks_memory}
use Rattle.ddt_loop.specs.Ends.{waiting_itrs, ended_of, HasEnded, HasEndedBy, HasEndedByHaste}
use Rattle.ddt_resolver.specs.TickStep.{HastenStep}
use Rattle.ddt_resolver.specs.declared.step.Reply.TheVariants.{ToTick}
use Rattle.ddt_loop.specs.PacketOutcomes.{IsPacketOutcome, outcome_of_request, outcome_of_reply}

-- ---- who waits

itrs_both : (before after : _) → waiting_itrs (before ++ after) ≡ waiting_itrs before ++ waiting_itrs after
itrs_both [] after = refl
itrs_both (p ∷ before) after = rw (itrs_both before after, append_assoc)

-- unless an ITR is taken off the list, the same ITRs wait
same_itrs : {t old new taken : _} → TakesOff t old new taken → ((q : _) → taken ≡ Some (Itr q) → ⊥) → waiting_itrs new ≡ waiting_itrs old
same_itrs (nobody none is e) not = rw is
same_itrs {t} (somebody before after (Identifier place) was is e) not =
    rw (was, is, itrs_both before after, itrs_both before (waiting_for t (Identifier place) ∷ after))
same_itrs (somebody before after (Itr q) was is e) not = absurd (not q e)

-- ---- a datagram and a tick

by_taken : {call s new waiting after reply t end : _} (r taken : _) → Step s call new reply → progress_of reply ≡ Ends t end → TakesOff t waiting after taken
    → r ≡ ended_of t end taken → HasEndedBy call s new waiting after r
by_taken r None step is takes e = rw e (same_itrs takes (λ q f. cc f))
by_taken r (Some (Identifier place)) step is takes e = rw e (same_itrs takes (λ q f. cc f))
by_taken r (Some (Itr q)) step is takes e = rw e (record { reply = _; step = step; ends = is; request = q; takes = takes })

pub ends_by : {call s new reply : _} (waiting after p r : _) → Step s call new reply → progress_of reply ≡ p → HasEnded p waiting after r
    → HasEndedBy call s new waiting after r
ends_by waiting after Stays r step is h = rw (h.1, h.0)
ends_by waiting after (Sends t d) r step is h = rw (h.1, h.0)
ends_by waiting after (Ends t end) r step is h = by_taken r h.taken step is h.takes h.is

hasted_taken : {nonce s new waiting after ticked t end : _} (r taken : _) → HastenStep s nonce new ticked → progress_of (ToTick ticked) ≡ Ends t end
    → TakesOff t waiting after taken → r ≡ ended_of t end taken → HasEndedByHaste nonce s new waiting after r
hasted_taken r None step is takes e = rw e (same_itrs takes (λ q f. cc f))
hasted_taken r (Some (Identifier place)) step is takes e = rw e (same_itrs takes (λ q f. cc f))
hasted_taken r (Some (Itr q)) step is takes e = rw e (record { ticked = _; step = step; ends = is; request = q; takes = takes })

pub ends_by_haste : {nonce s new ticked : _} (waiting after p r : _) → HastenStep s nonce new ticked → progress_of (ToTick ticked) ≡ p
    → HasEnded p waiting after r → HasEndedByHaste nonce s new waiting after r
ends_by_haste waiting after Stays r step is h = rw (h.1, h.0)
ends_by_haste waiting after (Sends t d) r step is h = rw (h.1, h.0)
ends_by_haste waiting after (Ends t end) r step is h = hasted_taken r h.taken step is h.takes h.is

pub ends_came : (now from bytes : _) (w new : Running) (ended : _)
    → HasEndedBy (Hear from bytes) (moved now w.state) new.state w.desk.waiting new.desk.waiting ended → IsPacketOutcome now from bytes w new (outcome_of_reply from ended)
ends_came now from bytes w new None same = same
ends_came now from bytes w new (Some e) ends = (refl, ends)

-- ---- an ask of an ITR

-- whoever asks doesn't wait, unless a lookup starts
pub not_waiting : {me now x who w answer calls new : _} → Asks me now x who w answer calls new → (answer ≡ Ok None → ⊥) → new.desk ≡ w.desk
not_waiting (answered (asked_as.Answer o) step starts is) not = starts.1
not_waiting (answered (asked_as.Sent t d) step starts is) not = absurd (not is)
not_waiting (refused why step desk none is) not = desk
not_waiting (lacks_memory wants state desk none is) not = desk

pub waits_came : (now from bytes : _) (w new : Running) (ticket len q : _) → len ≡ length bytes → IsItrRequest bytes q
    → IfSome ticket (λ t. new.desk ≡ with_requester w.desk t (Itr q)) → IfNone ticket (new.desk ≡ w.desk) → IsPacketOutcome now from bytes w new (outcome_of_request ticket len)
waits_came now from bytes w new None len q long is waits none = rw none
waits_came now from bytes w new (Some t) len q long is waits none = (long, (q, is, waits))
