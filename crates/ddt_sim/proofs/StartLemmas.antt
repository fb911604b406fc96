-- Each step keeps true the entries at which lookups started.
use Rattle.std.proofs.Common.{◌≡◌, ℕ, List, [], ◌∷◌, Option, Some, None, refl, sym, ap, ◌∙◌, inl, inr, nat_cmp}
use Rattle.std.specs.Prelude.{IsTrue}
use Rattle.std.specs.FinMap.{get, get-empty}
use Rattle.std.proofs.lemmas.Option.{none-some, same_Some}
use Rattle.std.proofs.lemmas.Bool.{false≢true}
use Rattle.ddt_path.specs.declared.action.Action.{Action}
use Rattle.ddt_path.specs.declared.action.Action.TheVariants.{MsNotRegistered, DelegationHole}
use Rattle.ddt_path.specs.declared.locator.Locator.{Locator}
use Rattle.ddt_path.specs.declared.xeid.Xeid.{Xeid}
use Rattle.ddt_path.specs.Path.{xeid_path}
use Rattle.ddt_register.specs.declared.register.Register.{Register}
use Rattle.ddt_cache.specs.declared.cache_entry.Entry.{Entry}
use Rattle.ddt_cache.specs.Entry.{is_negative}
use Rattle.ddt_cache.specs.Found.{IsFound}
use Rattle.ddt_resolver.specs.declared.pending.Pending.{Pending}
use Rattle.ddt_resolver.specs.Records.{negative_answer, start_at}
use Rattle.ddt_resolver.specs.State.{State, numbered, request_sent, dropped, stored, forgotten, opening, referred, passed_on, started_over, tried_again, at_next}
use Rattle.ddt_resolver.specs.AskStep.{Start, cached, full, used_up, opened, answer_of}
use Rattle.ddt_resolver.specs.Act as acts
use Rattle.ddt_resolver.specs.Act.{Act}
use Rattle.ddt_resolver.specs.TickStep as ticks
use Rattle.ddt_resolver.specs.TickStep.{GoOn}
use Rattle.ddt_resolver.specs.Step as steps
use Rattle.ddt_resolver.specs.laws.NumberMap.{found_insert, found_remove}
use Rattle.ddt_sim.specs.Sound.{IsTrueEntry, delegates, registers, denies, IsSound}
use Rattle.ddt_sim.specs.Inside.{IsTrueStart, zone, site, StartsAreTrue, NewStartsAreTrue, StepsKeepStarts, TimeKeepsStarts, HasteningKeepsStarts, CancellingKeepsStarts, ForgettingKeepsStarts}

abbrev IsStartOf : Register → Pending → Type 0
IsStartOf r l = (p : List ℕ) → l.last_referral ≡ None → l.start_entry ≡ Some p → IsTrueStart r l.servers p

module _ (r : Register) (s : State) (starts : StartsAreTrue r s) where
  pub starts_dropped : (t : ℕ) → StartsAreTrue r (dropped s t)
  starts_dropped t u l p found = starts u l p (found_remove s.pending t u l found).1

  starts_request_sent : (t : ℕ) (l : Pending) → IsStartOf r l → StartsAreTrue r (request_sent s t l)
  starts_request_sent t l own u m p found = elim (found_insert s.pending t (numbered s l) u m found) [
    | inl e ↦ rw (← e.1) (own p)
    | inr e ↦ starts u m p e.1
  ]

  same_start : (t : ℕ) (l m : Pending) → get s.pending t ≡ Some l → m.servers ≡ l.servers → m.last_referral ≡ l.last_referral → m.start_entry ≡ l.start_entry → IsStartOf r m
  same_start t l m here servers saved start p none at = rw servers (starts t l p here (sym saved ∙ none) (sym start ∙ at))

unanswered : (a : Action) (p : List ℕ) (ls : List Locator) → negative_answer a p ls ≡ None → IsTrue (is_negative a) → ⊥
unanswered MsNotRegistered p ls e h = none-some _ (sym e)
unanswered DelegationHole p ls e h = none-some _ (sym e)
unanswered _ p ls e h = false≢true h

starts_here : (p q : List ℕ) → start_at p ≡ Some q → p ≡ q
starts_here [] q e = absurd (none-some q e)
starts_here (d ∷ ds) q e = same_Some (d ∷ ds) q e

went_on : (r : Register) (s : State) (starts : StartsAreTrue r s) (t : ℕ) (l : Pending) (here : get s.pending t ≡ Some l) (new : State) (ticked : _)
    → GoOn s t l new ticked → StartsAreTrue r new
went_on r s starts t l here new ticked (ticks.again first room e f) = rw e (starts_request_sent r s starts t (tried_again l) (same_start r s starts t l (tried_again l) here refl refl refl))
went_on r s starts t l here new ticked (ticks.next_place second more room e f) = rw e (starts_request_sent r s starts t (at_next l) (same_start r s starts t l (at_next l) here refl refl refl))
went_on r s starts t l here new ticked (ticks.answered rec second last kept e f) = rw e (starts_dropped r s starts t)
went_on r s starts t l here new ticked (ticks.no_reply second last none e f) = rw e (starts_dropped r s starts t)
went_on r s starts t l here new ticked (ticks.used_up more over e f) = rw e (starts_dropped r s starts t)

module _ (r : Register) (s : State) (i : IsSound r s) (starts : StartsAreTrue r s) where
  at_entry : (p q : List ℕ) (e : Entry) → p ≡ q → answer_of p e ≡ None → IsTrueEntry r p e → IsTrueStart r e.servers q
  at_entry p q e at free (delegates z is same action servers) = zone z is (same ∙ at) servers
  at_entry p q e at free (registers t z is same action its servers) = rw (← at) (site t z is same its servers)
  at_entry p q e at free (denies neg h) = absurd (unanswered e.action p e.servers free neg)

  begun : (x : Xeid) (p : List ℕ) (e : Entry) → IsFound s.known (xeid_path x) p e → answer_of p e ≡ None → IsStartOf r (opening x e.servers (start_at p))
  begun x p e (inl found) free q none at = at_entry p q e (starts_here p q at) free (i.entries p e found.value)
  begun x p e (inr root) free q none at = absurd (none-some q (rw root.everything at at))

  asked : (x : Xeid) (p : List ℕ) (e : Entry) (new : State) (a : _) → IsFound s.known (xeid_path x) p e → Start s x p e new a → StartsAreTrue r new
  asked x p e new a found (cached v answer is f) = rw is starts
  asked x p e new a found (full none many is f) = rw is starts
  asked x p e new a found (used_up none few over is f) = rw is starts
  asked x p e new a found (opened free is f) = rw is (starts_request_sent r s starts s.next (opening x e.servers (start_at p)) (begun x p e found free.unanswered))

  module _ (t : ℕ) (l : Pending) (here : get s.pending t ≡ Some l) where
    acted : (rec : _) (new : State) (heard : _) → Act s t l rec new heard → StartsAreTrue r new
    acted rec new heard (acts.loops k loop e f) = rw e (starts_dropped r s starts t)
    acted rec new heard (acts.refers k lower more e f) = rw e (starts_request_sent r (stored s rec) starts t (referred l rec) (λ p none at. absurd (none-some rec.prefix (sym none))))
    acted rec new heard (acts.acknowledges k e f) = rw e (starts_dropped r (stored s rec) starts t)
    acted rec new heard (acts.closes k e f) = rw e (starts_dropped r (stored s rec) starts t)
    acted rec new heard (acts.passes_on k more room e f) = rw e (starts_request_sent r s starts t (passed_on l rec) (same_start r s starts t l (passed_on l rec) here refl refl refl))
    acted rec new heard (acts.concludes k last e f) = rw e (starts_dropped r (stored s rec) starts t)
    acted rec new heard (acts.starts_over p k start room e f) = rw e (starts_request_sent r (forgotten s p) starts t (started_over s l) (λ q none at. absurd (none-some q at)))
    acted rec new heard (acts.nobody k start e f) = rw e (starts_dropped r s starts t)
    acted rec new heard (acts.used_up k over e f) = rw e (starts_dropped r s starts t)

pub steps_keep : StepsKeepStarts
steps_keep r s call new reply i starts (steps.asks x a id step e f) = asked r s i starts x step.prefix step.entry new a step.found step.start
steps_keep r s call new reply i starts (steps.hears source bytes heard (acts.ignored why ignores same is) e f) = rw same starts
steps_keep r s call new reply i starts (steps.hears source bytes heard (acts.taken t l rec taken act) e f) =
    acted r s i starts t l taken.in_time.from_server.reply.is_pending rec new heard act
steps_keep r s call new reply i starts (steps.ticks ticked (ticks.nothing none same is) e f) = rw same starts
steps_keep r s call new reply i starts (steps.ticks ticked (ticks.due t l due on) e f) = went_on r s starts t l due.is_pending new ticked on

pub new_starts : NewStartsAreTrue
new_starts r roots me seed t l p found none at = absurd (none-some l (sym (get-empty nat_cmp t) ∙ found))

pub time_keeps : TimeKeepsStarts
time_keeps r s now starts = starts

pub cancelling_keeps : CancellingKeepsStarts
cancelling_keeps r s t starts = starts_dropped r s starts t

pub forgetting_keeps : ForgettingKeepsStarts
forgetting_keeps r s p starts = starts

pub hastening_keeps : HasteningKeepsStarts
hastening_keeps r s nonce new ticked starts (ticks.unknown none same is) = rw same starts
hastening_keeps r s nonce new ticked starts (ticks.hastened t l here its on) = went_on r s starts t l here new ticked on
