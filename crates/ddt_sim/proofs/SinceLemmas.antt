-- Lines since an ask, and where a step's entries come from.
use Rattle.std.proofs.Common.{◌≡◌, ℕ, Bool, cond, true, false, List, [], ◌∷◌, Some, None, refl, sym, ◌∙◌, inl, inr, ◌⊎◌}
use Rattle.std.specs.Prelude.{IsTrue}
use Rattle.std.specs.FinMap.{get, insert, remove, get-remove}
use Rattle.std.specs.Cmp.Lexicographic.{nat_list_cmp_total}
use Rattle.std.proofs.lemmas.Option.{none-some}
use Rattle.ddt_path.specs.declared.locator.Locator.{Locator}
use Rattle.ddt_path.specs.declared.action.Action.{Action}
use Rattle.ddt_path.specs.declared.action.Action.TheVariants.{NodeReferral, MsReferral, MsAck, MsNotRegistered, DelegationHole, NotAuthoritative}
use Rattle.ddt_path.specs.declared.record.ReferralRecord.{ReferralRecord}
use Rattle.ddt_check.specs.laws.Statements.{IsFinal}
use Rattle.ddt_trie.specs.laws.Entry.{tied}
use Rattle.ddt_trie.specs.laws.Map.{found_after_insert}
use Rattle.ddt_cache.specs.declared.cache_entry.Entry.{Entry}
use Rattle.ddt_cache.specs.Entry.{is_negative, entry_of}
use Rattle.ddt_cache.specs.Saved.{is_saved}
use Rattle.ddt_resolver.specs.declared.pending.Pending.{Pending}
use Rattle.ddt_resolver.specs.declared.results.Heard.{Heard}
use Rattle.ddt_resolver.specs.declared.results.Ticked.{Ticked}
use Rattle.ddt_resolver.specs.declared.step.Reply.{Reply}
use Rattle.ddt_resolver.specs.State.{State}
use Rattle.ddt_resolver.specs.MatchReply.{IsTaken}
use Rattle.ddt_resolver.specs.AskStep as ask
use Rattle.ddt_resolver.specs.AskStep.{AskStep}
use Rattle.ddt_resolver.specs.Act as acts
use Rattle.ddt_resolver.specs.Act.{Act, HearStep}
use Rattle.ddt_resolver.specs.TickStep as ticks
use Rattle.ddt_resolver.specs.TickStep.{GoOn, TickStep}
use Rattle.ddt_resolver.specs.Step as steps
use Rattle.ddt_resolver.specs.Step.{ResolverCall, Hear, Step}
use Rattle.ddt_resolver.specs.laws.Shape.{Takes}
use Rattle.ddt_sim.specs.History.{Line, Among}
use Rattle.ddt_sim.specs.InForce.{SomeSince}

-- ---- some line since an ask

pub since_map : (t : ℕ) (is are : Line → Type 0) → ((line : Line) → is line → are line) → (past : List Line) → SomeSince t is past → SomeSince t are past
since_map t is are f [] h = h
since_map t is are f (line ∷ past) (inl h) = inl (h.0, f line h.1)
since_map t is are f (line ∷ past) (inr h) = inr (since_map t is are f past h)

pub since_among : (t : ℕ) (is are : Line → Type 0) → ((line : Line) → is line → are line) → (past : List Line) → SomeSince t is past → Among past are
since_among t is are f [] h = h
since_among t is are f (line ∷ past) (inl h) = inl (f line h.1)
since_among t is are f (line ∷ past) (inr h) = inr (since_among t is are f past h)

pub since_any : (t : ℕ) (is : Line → Type 0) (past : List Line) → SomeSince t is past → (line : Line) × is line
since_any t is [] h = absurd h
since_any t is (line ∷ past) (inl h) = (line, h.1)
since_any t is (line ∷ past) (inr h) = since_any t is past h

-- ---- what a step saves

-- the entry of a record that is taken
pub record IsSaved (s : State) (call : ResolverCall) (p : List ℕ) (e : Entry) : Type 0 where
  pub ticket : ℕ
  pub lookup : Pending
  pub told : ReferralRecord
  pub takes : Takes s call ticket lookup told
  pub is_prefix : p ≡ told.prefix
  pub is_entry : e ≡ entry_of s.known.time told

abbrev pub WasOrSaved : State → ResolverCall → List ℕ → Entry → Type 0
WasOrSaved s call p e = (get s.known.live p ≡ Some e) ⊎ IsSaved s call p e

module _ (s : State) (call : ResolverCall) (new : State) (p : List ℕ) (e : Entry) (found : get new.known.live p ≡ Some e) where
  module _ (source : Locator) (bytes : List ℕ) (t : ℕ) (l : Pending) (rec : ReferralRecord) (is : call ≡ Hear source bytes) (taken : IsTaken s source bytes t l rec) where
    put : (b : Bool) → get (cond b (insert s.known.live rec.prefix (entry_of s.known.time rec)) s.known.live) p ≡ Some e → WasOrSaved s call p e
    put false there = inl there
    put true there = elim (found_after_insert s.known.live rec.prefix (entry_of s.known.time rec) p e there) [
      | inl one ↦ inr (record { ticket = t; lookup = l; told = rec; takes = record { source = source; bytes = bytes; called = is; taken = taken }; is_prefix = one.0; is_entry = sym one.1 })
      | inr old ↦ inl old
    ]

    forgot : (q : List ℕ) → get (remove s.known.live q) p ≡ Some e → WasOrSaved s call p e
    forgot q there = inl (by (tied p q) (sym (get-remove nat_list_cmp_total s.known.live q p) ∙ there))
      where
        by : (b : Bool) → cond b None (get s.known.live p) ≡ Some e → get s.known.live p ≡ Some e
        by true is = absurd (none-some e is)
        by false is = is

    acted : (h : Heard) → Act s t l rec new h → WasOrSaved s call p e
    acted h (acts.loops k loop f g) = inl (rw f at found)
    acted h (acts.refers k below more f g) = put (is_saved s.known.live rec) (rw f at found)
    acted h (acts.acknowledges k f g) = put (is_saved s.known.live rec) (rw f at found)
    acted h (acts.closes k f g) = put (is_saved s.known.live rec) (rw f at found)
    acted h (acts.passes_on k more room f g) = inl (rw f at found)
    acted h (acts.concludes k last f g) = put (is_saved s.known.live rec) (rw f at found)
    acted h (acts.starts_over q k start room f g) = forgot q (rw f at found)
    acted h (acts.nobody k start f g) = inl (rw f at found)
    acted h (acts.used_up k over f g) = inl (rw f at found)

  started : (x : _) (r : _) → AskStep s x new r → WasOrSaved s call p e
  started x r step = elim step.start [
    | ask.cached v answer f g ↦ inl (rw f at found)
    | ask.full none many f g ↦ inl (rw f at found)
    | ask.used_up none few over f g ↦ inl (rw f at found)
    | ask.opened free f g ↦ inl (rw f at found)
  ]

  went_on : (t : ℕ) (l : Pending) (h : Ticked) → GoOn s t l new h → WasOrSaved s call p e
  went_on t l h (ticks.again first room f g) = inl (rw f at found)
  went_on t l h (ticks.next_place second more room f g) = inl (rw f at found)
  went_on t l h (ticks.answered rec second last kept f g) = inl (rw f at found)
  went_on t l h (ticks.no_reply second last none f g) = inl (rw f at found)
  went_on t l h (ticks.used_up more over f g) = inl (rw f at found)

  -- a live entry after a step was live before, or is of the record that the step took
  pub was_or_saved : (a : Reply) → Step s call new a → WasOrSaved s call p e
  was_or_saved a (steps.asks x r id step f g) = started x r step
  was_or_saved a (steps.hears source bytes h (acts.ignored why ignores f g) called to) = inl (rw f at found)
  was_or_saved a (steps.hears source bytes h (acts.taken t l rec taken does) called to) = acted source bytes t l rec called taken h does
  was_or_saved a (steps.ticks h (ticks.nothing none f g) called to) = inl (rw f at found)
  was_or_saved a (steps.ticks h (ticks.due t l due on) called to) = went_on t l h on

pub negative_final : (a : Action) → IsTrue (is_negative a) → IsFinal a
negative_final MsNotRegistered neg = inr (inl refl)
negative_final DelegationHole neg = inr (inr refl)
negative_final NodeReferral neg = absurd (cc neg)
negative_final MsReferral neg = absurd (cc neg)
negative_final MsAck neg = absurd (cc neg)
negative_final NotAuthoritative neg = absurd (cc neg)
