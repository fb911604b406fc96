-- An ask, and the lookup that it opens.
use Rattle.std.proofs.Common.{◌≡◌, ℕ, ◌≤◌, [], Some, Result, Ok, Err, refl, sym, ap, ◌∙◌, arith}
use Rattle.std.specs.Prelude.{IsTrue, IfErr}
use Rattle.std.proofs.lemmas.Option.{none-some, same_Some}
use Rattle.ddt_path.specs.declared.xeid.Xeid.{Xeid}
use Rattle.ddt_path.specs.Path.{xeid_path, is_path}
use Rattle.ddt_register.specs.declared.register.Register.{Register}
use Rattle.ddt_check.specs.Rules.{IsAccepted}
use Rattle.ddt_cache.specs.Found.{IsFound}
use Rattle.ddt_cache.specs.Moment.{last_moment}
use Rattle.ddt_cache.specs.laws.Known.{IsFound-unique}
use Rattle.ddt_resolver.specs.declared.results.Outgoing.{Outgoing}
use Rattle.ddt_resolver.specs.declared.results.Asked.{Asked}
use Rattle.ddt_resolver.specs.declared.results.Asked.TheVariants.{Answer, Sent}
use Rattle.ddt_resolver.specs.declared.results.AskError.{AskError}
use Rattle.ddt_resolver.specs.declared.results.AskError.TheVariants as ask_error
use Rattle.ddt_resolver.specs.State.{State, moved, dropped}
use Rattle.ddt_resolver.specs.AskStep as ask
use Rattle.ddt_resolver.specs.AskStep.{AskStep, AskWants, Start, UnlessAskLacksMemory, OnMemory, answer_of}
use Rattle.ddt_resolver.specs.Order.{IsStateInOrder}
use Rattle.ddt_resolver.specs.declared.step.Reply.TheVariants.{ToAsk}
use Rattle.ddt_resolver.specs.Step.{Ask, asks}
use Rattle.ddt_resolver.specs.laws.Order.{order_moved}
use Rattle.ddt_resolver.specs.laws.Shape.{moved_by_step}
use Rattle.ddt_sim.specs.declared.lookup_result.Lookup.{Lookup}
use Rattle.ddt_sim.specs.declared.lookup_result.LookupError.{LookupError}
use Rattle.ddt_sim.specs.declared.lookup_result.LookupError.TheVariants.{GaveUp, TooMany}
use Rattle.ddt_sim.specs.Sound.{IsSound, IsRightAsked, StepsKeepSoundness, TimeKeepsSoundness}
use Rattle.ddt_sim.specs.Waiting.{CanBeAsked, IsAwaited}
use Rattle.ddt_sim.specs.Lookup.{IsRemembered, Reaches, sent, Fails, too_many, used_up, unasked, ask_failure}
use Rattle.ddt_sim.specs.Headline.{IsUnderWay, IsAnswerToAsk, IsRightlyAsked, IsRightlyEnded, IsRightFailure, IsRightError}
use Rattle.ddt_sim.proofs.SoundLemmas.{sound_dropped}
use Rattle.ddt_sim.proofs.WaitingLemmas.{asked_waits, does_ask}

-- ---- a remembered answer is given

module _ {x : Xeid} {s : State} (kept : IsRemembered x s) where
  its_answer : {p : _} {e : _} → IsFound s.known (xeid_path x) p e → answer_of p e ≡ Some kept.outcome
  its_answer {p = p} {e = e} found = let q = IsFound-unique s.known (xeid_path x) kept.prefix p kept.entry e kept.found found in rw (← q.0, ← q.1) kept.answers

  pub given : {new : State} {res : Result Asked AskError} → AskStep s x new res → res ≡ Ok (Answer kept.outcome)
  given {new = new} {res = res} step = by step.start
    where
      by : Start s x step.prefix step.entry new res → res ≡ Ok (Answer kept.outcome)
      by (ask.cached o answer same f) = f ∙ ap (λ v. Ok (Answer v)) (same_Some _ _ (sym answer ∙ its_answer step.found))
      by (ask.full none many same f) = absurd (none-some _ (sym none ∙ its_answer step.found))
      by (ask.used_up none few over same f) = absurd (none-some _ (sym none ∙ its_answer step.found))
      by (ask.opened free same f) = absurd (none-some _ (sym free.unanswered ∙ its_answer step.found))

  pub not_refused : (new : State) (error : AskError) → UnlessAskLacksMemory (Err error) (AskStep s x new (Err error)) → OnMemory (Err error) ((new ≡ s) × AskWants s x) → ⊥
  not_refused new ask_error.Memory step wants = none-some _ (sym wants.1.free.unanswered ∙ its_answer wants.1.found)
  not_refused new _ step wants = cc (given step)

-- ---- a refused ask is an error of the lookup

pub refused_fails : {now : ℕ} {x : Xeid} {s new : State} (error : AskError) → UnlessAskLacksMemory (Err error) (AskStep (moved now s) x new (Err error))
    → OnMemory (Err error) ((new ≡ moved now s) × AskWants (moved now s) x) → Fails now x s (ask_failure error) new
refused_fails ask_error.TooMany step wants = too_many step refl
refused_fails ask_error.Exhausted step wants = used_up step refl
refused_fails ask_error.Memory step wants = unasked wants.1 wants.0 refl

pub refused_is_right : (now : ℕ) (x : Xeid) (s new : State) (error : AskError) → UnlessAskLacksMemory (Err error) (AskStep (moved now s) x new (Err error)) → IsRightError s new (ask_failure error)
refused_is_right now x s new ask_error.TooMany step = does_ask step
refused_is_right now x s new ask_error.Exhausted step = (refl, does_ask step)
refused_is_right now x s new ask_error.Memory step = tt

-- ---- over a sound resolver

module _ (keeps : StepsKeepSoundness) (time : TimeKeepsSoundness) {r : Register} {now : ℕ} (x : Xeid) {s : State} (early : now ≤ last_moment) (o : IsStateInOrder s) (id : IsTrue (is_path (xeid_path x)))
    (accepted : IsAccepted r) (sound : IsSound r s) {new : State} where
  kept : {res : Result Asked AskError} → AskStep (moved now s) x new res → IsSound r new × IsRightAsked r (xeid_path x) res
  kept {res = res} step = keeps r (moved now s) (Ask x) new (ToAsk res) accepted (order_moved s now early o) (time r s now sound) tt (asks x res id step refl refl)

  -- it stays sound where the ask is refused
  pub ask_keeps_sound : (error : AskError) → UnlessAskLacksMemory (Err error) (AskStep (moved now s) x new (Err error)) → OnMemory (Err error) ((new ≡ moved now s) × AskWants (moved now s) x) → IsSound r new
  ask_keeps_sound ask_error.Memory step wants = rw wants.0 (time r s now sound)
  ask_keeps_sound _ step wants = (kept step).0

  -- and is asked rightly
  pub rightly_asked : {a : Asked} → AskStep (moved now s) x new (Ok a) → CanBeAsked x new.me → IsRightlyAsked r now x new a
  rightly_asked step fits = record { accepted = accepted; start = s; step = step; sound = (kept step).0; right = (kept step).1; fits = fits }

-- an ask doesn't change the resolver's own address
pub asked_me : {now : ℕ} {x : Xeid} {s : State} → now ≤ last_moment → IsStateInOrder s → IsTrue (is_path (xeid_path x)) → {new : State} {res : Result Asked AskError} → AskStep (moved now s) x new res → new.me ≡ s.me
asked_me early o id {res = res} step = (moved_by_step _ (order_moved _ _ early o) (Ask _) _ (ToAsk res) (asks _ res id step refl refl)).me

-- ---- a lookup that an ask opened

module _ {now : ℕ} {s : State} {a : Asked} {t : ℕ} {d : Outgoing} (is : a ≡ Sent t d) where
  pub reached_by_ask : {x : Xeid} {start : State} → AskStep (moved now start) x s (Ok a) → Reaches now x start [] t d s
  reached_by_ask step = sent t d s (rw is at step)

  pub awaited_by_ask : IsAnswerToAsk now s a → IsAwaited now s t d
  awaited_by_ask asked = record { identifier = asked.identifier; waits = asked_waits (omega arith) (does_ask (rw is at asked.step)) }

  pub under_way : {r : Register} {x : Xeid} → IsRightlyAsked r now x s a → IsUnderWay r now x s t d
  under_way asked = record { accepted = asked.accepted; sound = asked.sound; waits = asked_waits (omega arith) (does_ask (rw is at asked.step)); fits = asked.fits }

-- its removal after an error leaves what it gives as it is
pub removed_well : {r : Register} {x : Xeid} {me : _} {error : LookupError} {s new : State} (t : ℕ) → IsRightlyEnded r x me (Err error) s → new ≡ dropped s t → IsRightlyEnded r x me (Err error) new
removed_well {r = r} {error = error} {s = s} t e same = rw same (record { sound = sound_dropped r s e.sound t; right = tt; failure = by error e.failure; fair = tt })
  where
    by : (error : LookupError) → IsRightFailure s error → IsRightFailure (dropped s t) error
    by (GaveUp why) f = f
    by _ f = f

-- a failure of a request is one of a lookup
pub failure_is_error : (old new : State) (res : Result Lookup LookupError) → IfErr res (IsRightFailure new) → IfErr res (IsRightError old new)
failure_is_error old new (Err TooMany) f = absurd f
failure_is_error old new _ f = f
