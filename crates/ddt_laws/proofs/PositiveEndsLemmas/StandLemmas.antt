-- A resolver stays sound for a register, and has asked for what is pending, where the replies that it hears are fair.
use Rattle.std.proofs.Common.{◌≡◌, ℕ, ◌≤◌, List, ◌++◌, Some, ◌∙◌, inl, inr}
use Rattle.std.specs.FinMap.{get, insert}
use Rattle.std.proofs.lemmas.List.Elements.{Contains-append_left, Contains-append_right}
use Rattle.ddt_path.specs.declared.locator.Locator.{Locator}
use Rattle.ddt_path.specs.declared.xeid.Xeid.{Xeid}
use Rattle.ddt_register.specs.declared.register.Register.{Register}
use Rattle.ddt_check.specs.Rules.{IsAccepted}
use Rattle.ddt_cache.specs.Moment.{last_moment}
use Rattle.ddt_sockets.specs.declared.wire_calls.Call.{Call}
use Rattle.ddt_resolver.specs.declared.pending.Pending.{Pending}
use Rattle.ddt_resolver.specs.declared.step.Reply.{Reply}
use Rattle.ddt_resolver.specs.Order.{IsStateInOrder}
use Rattle.ddt_resolver.specs.State.{State, moved, forgotten, numbered, request, server}
use Rattle.ddt_resolver.specs.laws.NumberMap.{found_insert, found_remove}
use Rattle.ddt_resolver.specs.laws.Order.{order_moved}
use Rattle.ddt_sim.specs.Sound.{IsSound, IsFair, StepsKeepSoundness, HasteningKeepsSoundness, TimeKeepsSoundness, ForgettingKeepsSoundness}
use Rattle.ddt_sim.specs.Inside.{StartsAreTrue, HonestRepliesAreInside, StepsKeepStarts, HasteningKeepsStarts, ForgettingKeepsStarts}
use Rattle.ddt_loop.specs.Right.{WasAsked}
use Rattle.ddt_loop.specs.Runs.{BeginsSound}
use Rattle.ddt_laws.proofs.ShapeLemmas.{Shape, stays, sends, drops, IsAct, of_step, of_haste}
use Rattle.ddt_laws.proofs.PositiveEndsLemmas.ChangeLemmas.{WasSent, SendsIn, Change, same, later, stepped, hastened}

-- the register is accepted, and steps, lookups that are hastened, time and prefixes that are forgotten keep a resolver
-- sound, and the starts of its lookups true
pub record Grounds (r : Register) : Type 0 where
  pub accepted : IsAccepted r
  pub steps : StepsKeepSoundness
  pub hastening : HasteningKeepsSoundness
  pub time : TimeKeepsSoundness
  pub forgetting : ForgettingKeepsSoundness
  pub starts : StepsKeepStarts
  pub hastened_starts : HasteningKeepsStarts
  pub forgotten_starts : ForgettingKeepsStarts
  pub inside : HonestRepliesAreInside

pub record Stands (r : Register) (me : Locator) (calls : List Call) (s : State) : Type 0 where
  pub sound : IsSound r s
  pub starts : StartsAreTrue r s
  pub own : s.me ≡ me
  pub tried : (t : ℕ) (l : Pending) → get s.pending t ≡ Some l → WasAsked me (server me l) l.nonce l.x calls

was_asked_more : (me to : Locator) (nonce : ℕ) (x : Xeid) (calls more : List Call) → WasAsked me to nonce x calls → WasAsked me to nonce x (calls ++ more)
was_asked_more me to nonce x calls more w = (w.0, Contains-append_left calls more _ w.1)

pub stands_first : {r : Register} {me : Locator} {calls : List Call} (s : State) → BeginsSound r me s → Stands r me calls s
stands_first s b = record {
  sound = b.starts.sound;
  starts = λ t l p here. absurd (cc (b.starts.at_rest t, here));
  own = b.own;
  tried = λ t l here. absurd (cc (b.starts.at_rest t, here));
}

pub stands_more : {r : Register} {me : Locator} {calls : List Call} {s : State} (more : List Call) → Stands r me calls s → Stands r me (calls ++ more) s
stands_more {me = me} {calls = calls} more h = record {
  sound = h.sound;
  starts = h.starts;
  own = h.own;
  tried = λ t l here. was_asked_more me (server me l) l.nonce l.x calls more (h.tried t l here);
}

module _ {r : Register} (g : Grounds r) {me : Locator} {calls : List Call} {s : State} (h : Stands r me calls s) where
  pub stands_moved : (now : ℕ) → Stands r me calls (moved now s)
  stands_moved now = record { sound = g.time r s now h.sound; starts = h.starts; own = h.own; tried = h.tried }

  pub stands_forgot : (p : List ℕ) → Stands r me calls (forgotten s p)
  stands_forgot p = record { sound = g.forgetting r s p h.sound; starts = g.forgotten_starts r s p h.starts; own = h.own; tried = h.tried }

  -- ---- what was tried

  module _ (tries : List Call) where
    older : (t : ℕ) (m : Pending) → get s.pending t ≡ Some m → WasAsked me (server me m) m.nonce m.x (calls ++ tries)
    older t m here = was_asked_more me (server me m) m.nonce m.x calls tries (h.tried t m here)

    newer : (new : State) (u : ℕ) (l : Pending) → new.pending ≡ insert s.pending u (numbered s l) → WasSent me (request s l) tries
        → (t : ℕ) (m : Pending) → get new.pending t ≡ Some m → WasAsked me (server me m) m.nonce m.x (calls ++ tries)
    newer new u l p sent t m here =
        elim (found_insert s.pending u (numbered s l) t m (rw p at here)) [
          | inl e ↦ rw (← e.1) (sent.0, Contains-append_right calls tries _ (rw h.own at sent.1))
          | inr e ↦ older t m e.1
        ]

    tried_on : (new : State) (a : Reply) → Shape s new a → SendsIn me a tries → (t : ℕ) (m : Pending) → get new.pending t ≡ Some m → WasAsked me (server me m) m.nonce m.x (calls ++ tries)
    tried_on new a (stays p n q) sent t m here = older t m (rw p at here)
    tried_on new a (sends u l from p n q) sent t m here = newer new u l p (sent u (request s l) q) t m here
    tried_on new a (drops u l e found p n q) sent t m here = older t m (found_remove s.pending u t m (rw p at here)).1

    stands_act : {new : State} {a : Reply} → IsAct s new a → SendsIn me a tries → IsSound r new → StartsAreTrue r new → Stands r me (calls ++ tries) new
    stands_act {new} {a} act sent sound starts = record { sound = sound; starts = starts; own = act.own ∙ h.own; tried = tried_on new a act.shape sent }

-- so it stays over each change
pub stands_on : {r : Register} (g : Grounds r) {me : Locator} {calls : List Call} {s new : State} {tries : List Call} (now : ℕ) → now ≤ last_moment → IsStateInOrder s → Stands r me calls s
    → Change me now (IsFair r (moved now s)) s new tries → Stands r me (calls ++ tries) new
stands_on g {tries = tries} now le o h (same is) = rw is (stands_more tries h)
stands_on g {tries = tries} now le o h (later is) = rw is (stands_more tries (stands_moved g h now))
stands_on {r} g {s = s} {new = new} {tries = tries} now le o h (stepped call a fair step sent) =
    let m = stands_moved g h now in
    let order = order_moved s now le o in
    stands_act g m tries (of_step order step) sent (g.steps r (moved now s) call new a g.accepted order m.sound fair step).0 (g.starts r (moved now s) call new a m.sound m.starts step)
stands_on {r} g {s = s} {new = new} {tries = tries} now le o h (hastened nonce ticked step sent) =
    let m = stands_moved g h now in
    let order = order_moved s now le o in
    stands_act g m tries (of_haste order step) sent (g.hastening r (moved now s) nonce new ticked g.accepted order m.sound step).0
    (g.hastened_starts r (moved now s) nonce new ticked m.starts step)
