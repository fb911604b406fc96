-- What a whole run gives, where wires tell their calls.
use Rattle.std.proofs.Common.{◌≡◌, ℕ, ◌≤◌, length, inl, inr, true, List, [], ◌∷◌, ◌++◌, Option, Some, None, refl, sym, ap, ◌∙◌}
use Rattle.std.specs.Prelude.{count_by}
use Rattle.std.specs.List.{AllZip}
use Rattle.ddt_path.specs.declared.locator.Locator.{Locator}
use Rattle.ddt_path.specs.declared.xeid.Xeid.{Xeid}
use Rattle.ddt_config.specs.Table.{Outline}
use Rattle.ddt_sockets.specs.declared.wire_calls.Call.{Call}
use Rattle.ddt_sockets.specs.Calls.{RecordsCalls}
use Rattle.ddt_resolver.specs.Order.{IsStateInOrder}
use Rattle.ddt_resolver.specs.State.{State}
use Rattle.ddt_sim.specs.Sound.{IsSound, StepsKeepSoundness, TimeKeepsSoundness}
use Rattle.ddt_loop.specs.declared.lookup_end.LoopEnd.{LoopEnd}
use Rattle.ddt_cache.specs.Moment.{last_moment}
use Rattle.ddt_sockets.specs.laws.Tell.{tells_both}
use Rattle.ddt_loop.specs.Requesters.{opening_desk, has_unresolved}
use Rattle.ddt_loop.specs.Acts.{Running, running}
use Rattle.ddt_loop.specs.Turns.{HaveAsked, TurnsWithin, IsLoop}
use Rattle.ddt_loop.specs.Right.{IsRightLoopEnd, is_poll, RepliesAreOwed, WhenTold, WhenFair}
use Rattle.ddt_loop.proofs.CallLemmas.{itrs}
use Rattle.ddt_loop.proofs.KeepLemmas.{Grounds}
use Rattle.ddt_loop.proofs.RightLemmas.{IsRightAfter, right_at_first, right_asks, right_turns}
use Rattle.ddt_loop.proofs.PollLemmas.{polls_asks, polls_turns, polls_loop}

-- what follows the same calls is the same
same_rest : (earlier first second : List Call) → earlier ++ first ≡ earlier ++ second → first ≡ second
same_rest [] first second e = e
same_rest (call ∷ earlier) first second e = same_rest earlier first second (cc e)

told_are : (before after : Option (List Call)) (calls earlier more : _) → RecordsCalls before calls after → before ≡ Some earlier
    → after ≡ Some (earlier ++ more) → calls ≡ more
told_are None after calls earlier more tells e f = absurd (cc e)
told_are (Some b) None calls earlier more tells e f = absurd (cc f)
told_are (Some b) (Some a) calls earlier more tells e f =
    let same : b ≡ earlier = cc e in let end : a ≡ earlier ++ more = cc f in same_rest earlier calls more (cc (same, end, tells))

-- a run whose calls were told
pub record WasRun (unread read : Option (List ℕ)) (before after : Option (List Call)) (servers : List Outline) (old : State) (me : Locator)
    (sockets : List Locator) (ids : List Xeid) (turns : ℕ) (ends : List LoopEnd) (new : State) : Type 0 where
  pub moments : List ℕ
  pub calls : List Call
  pub reads : RecordsCalls unread moments read
  pub tells : RecordsCalls before calls after
  pub loop : IsLoop servers old me sockets ids turns moments calls ends new

pub ran : (unread begun read before midway after servers old me sockets ids turns ends new begin : _) → begin ≤ last_moment → (d : _)
    (asked last : Running) → d ≡ opening_desk ids
    → ((calls : List Call) × RecordsCalls before calls midway × HaveAsked me begin ids (running old d) (length ids) calls asked)
    → RecordsCalls unread (begin ∷ []) begun → ((moments : List ℕ) × (calls : List Call) × RecordsCalls begun moments read × RecordsCalls midway calls after
    × TurnsWithin servers me sockets turns asked moments calls last) → ends ≡ last.desk.ends → new ≡ last.state
    → WasRun unread read before after servers old me sockets ids turns ends new
ran unread begun read before midway after servers old me sockets ids turns ends new begin le d asked last first w reads t ends_are state_is = record {
  moments = begin ∷ t.0;
  calls = w.0 ++ t.1;
  reads = tells_both unread (begin ∷ []) begun t.0 read reads t.2;
  tells = tells_both before w.0 midway t.1 after w.1 t.3;
  loop = record {
    begin = begin;
    is_moment = le;
    asking = w.0;
    turning = t.1;
    later = t.0;
    asked = asked;
    last = last;
    asks = rw first at w.2;
    turns_are = t.4;
    moments_are = refl;
    calls_are = refl;
    ends_are = ends_are;
    state_is = state_is;
  };
}

module _ {unread read before after servers old me sockets ids turns ends new : _}
    (run : WasRun unread read before after servers old me sockets ids turns ends new) where
  pub unresolved : WhenTold before after (λ calls. has_unresolved ends ≡ true → count_by is_poll calls ≡ turns)
  unresolved earlier calls e f some =
      let l = run.loop in
      let t = l.turns_are in
      let polled = polls_loop l.asking l.turning t.count (polls_asks l.asks) (polls_turns t.turned) in
      let are = ap (count_by is_poll) (sym l.calls_are ∙ told_are before after run.calls earlier calls run.tells e f) in
      elim t.stops [
        | inl is ↦ sym are ∙ polled ∙ is
        | inr none ↦ absurd (cc (none, ap has_unresolved l.ends_are, some))
      ]

  module _ (laws : StepsKeepSoundness) (time : TimeKeepsSoundness) (order : IsStateInOrder old) where
    right : WhenFair servers old me sockets before after (λ r calls. IsRightAfter r me ids [] calls run.loop.last)
    right r compiled starts own elsewhere earlier calls e f fair =
        let l = run.loop in
        let g : Grounds r = record { laws = laws; time = time; accepted = starts.accepted } in
        let whole : calls ≡ l.asking ++ l.turning = sym (told_are before after run.calls earlier calls run.tells e f) ∙ l.calls_are in
        let first = right_at_first r me ids old order starts.sound starts.at_rest own in
        rw whole (right_turns g servers sockets elsewhere (right_asks g l.is_moment first l.asks) l.turns_are.turned (rw whole at fair))

    pub answers : WhenFair servers old me sockets before after (λ r calls. AllZip (IsRightLoopEnd r) ids ends)
    answers r compiled starts own elsewhere earlier calls e f fair =
        rw run.loop.ends_are (right r compiled starts own elsewhere earlier calls e f fair).kept.ends

    pub replies : WhenFair servers old me sockets before after (λ r calls. RepliesAreOwed r me calls)
    replies r compiled starts own elsewhere earlier calls e f fair =
        (itrs run.loop.last.desk.waiting ++ [], (right r compiled starts own elsewhere earlier calls e f fair).owes)

    pub stays_sound : WhenFair servers old me sockets before after (λ r calls. IsSound r new)
    stays_sound r compiled starts own elsewhere earlier calls e f fair =
        rw run.loop.state_is (right r compiled starts own elsewhere earlier calls e f fair).kept.sound
