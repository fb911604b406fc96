-- From a run of a resolver over wires to what the command says of it.
use Rattle.std.proofs.Common.{◌≡◌, ◌⊎◌, inl, inr, ℕ, false, true, List, [], ◌∷◌, ◌++◌, Option, Some, None, Ok, refl, sym, ap, subst, ◌∙◌, append_assoc}
use Rattle.std.specs.Prelude.{count_by}
use Rattle.std.specs.List.{AllZip}
use Rattle.std.proofs.lemmas.List.{append-nil}
use Rattle.ddt_path.specs.declared.locator.Locator.{Locator}
use Rattle.ddt_path.specs.declared.xeid.Xeid.{Xeid}
use Rattle.ddt_path.specs.Locators.{lists}
use Rattle.ddt_register.specs.declared.register.Register.{Register}
use Rattle.ddt_check.specs.Zones.{roots}
use Rattle.ddt_config.specs.Table.{Outline}
use Rattle.ddt_sockets.specs.declared.wire_calls.Call.{Call as WireCall}
use Rattle.ddt_sockets.specs.Calls.{RecordsCalls}
use Rattle.ddt_resolver.specs.State.{State, fresh}
use Rattle.ddt_sim.specs.Compiled.{AreCompiled}
use Rattle.ddt_sim.specs.Sound.{NewResolversAreSound}
use Rattle.ddt_loop.specs.declared.lookup_end.LoopEnd.{LoopEnd}
use Rattle.ddt_loop.specs.Requesters.{has_unresolved}
use Rattle.ddt_loop.specs.Right.{IsRightLoopEnd, RepliesAreOwed, WhenFair, WhenTold, is_poll}
use Rattle.ddt_loop.specs.Turns.{IsLoop}
use Rattle.ddt_commands.specs.declared.commands.loops.task.Task.{Task}
use Rattle.ddt_commands.specs.CommandLine.Call.{Call}
use Rattle.ddt_commands.specs.Commands.Lookup.{bad_identifier, me_of, seed_of, xeid_words}
use Rattle.ddt_commands.specs.Commands.Loop.{IsRun, bad_loop, end_line, end_lines, server_locators, turns_of}
use Rattle.ddt_commands.proofs.LookupLemmas.{starts_sound}

-- ---- the words

pub good_words : (call : Call) (me_ : Locator) (seed turns : ℕ) → bad_identifier (xeid_words call) ≡ None → (me_of call ≡ Ok me_) × (seed_of call ≡ Some seed)
    → turns_of call ≡ Some turns
    → bad_loop call ≡ None
good_words call me_ seed turns good asks h = rw (good, asks.0, asks.1, h) refl

-- ---- the lines of the ends

-- that of one identifier more
pub lines_more : (x : Xeid) (end : LoopEnd) (ids xs : List Xeid) (ends rest : List LoopEnd) (old new all : List ℕ) → ids ≡ x ∷ xs → ends ≡ end ∷ rest → old ++ end_lines ids ends ≡ all
    → new ≡ old ++ end_line (x, end) → new ++ end_lines xs rest ≡ all
lines_more x end ids xs ends rest old new all first second so_far grown =
    ap (λ (t : List ℕ). t ++ end_lines xs rest) grown ∙ append_assoc old (end_line (x, end)) (end_lines xs rest)
    ∙ (λ k. old ++ end_lines (sym first k) (sym second k)) ∙ so_far

none_left : (ids : List Xeid) (ends : List LoopEnd) → (ids ≡ []) ⊎ (ends ≡ []) → end_lines ids ends ≡ []
none_left ids ends (inl e) = ap (λ (xs : List Xeid). end_lines xs ends) e
none_left [] ends (inr e) = refl
none_left (x ∷ xs) ends (inr e) = ap (λ (es : List LoopEnd). end_lines (x ∷ xs) es) e

pub lines_all : (ids : List Xeid) (ends : List LoopEnd) (text all : List ℕ) → (ids ≡ []) ⊎ (ends ≡ []) → text ++ end_lines ids ends ≡ all → text ≡ all
lines_all ids ends text all left so_far =
    sym (append-nil text) ∙ ap (λ (t : List ℕ). text ++ t) (sym (none_left ids ends left)) ∙ so_far

-- ---- the run

module _ (law : NewResolversAreSound) (r : Register) (task : Task) (found : List Locator) (start : State) (at_root : found ≡ roots r) (new : start ≡ fresh found task.me task.seed)
    (servers : List Outline) (compiled : AreCompiled servers r) (sockets : List Locator) (are : sockets ≡ server_locators r) (before after : Option (List WireCall)) (read reads : Option (List ℕ)) (ends : List LoopEnd)
    (last : State) where
  begun : start ≡ fresh (roots r) task.me task.seed
  begun = new ∙ ap (λ (l : List Locator). fresh l task.me task.seed) at_root

  pub is_run : WhenFair servers start task.me sockets before after (λ r calls. AllZip (IsRightLoopEnd r) task.ids.now ends)
      → WhenFair servers start task.me sockets before after (λ r calls. RepliesAreOwed r task.me calls)
      → WhenTold before after (λ calls. has_unresolved ends ≡ true → count_by is_poll calls ≡ task.turns)
      → (moments : List ℕ) × (calls : List WireCall) × RecordsCalls read moments reads × RecordsCalls before calls after
      × IsLoop servers start task.me sockets task.ids.now task.turns moments calls ends last
      → IsRun r task before after read reads ends
  is_run right owed unresolved (moments, calls, reading, telling, run) =
      let starts = starts_sound law r task.me task.seed found start at_root new compiled.0 in
      let at_me = ap (λ (s : State). s.me) new in record {
        moments = moments;
        calls = calls;
        last = last;
        reading = reading;
        telling = telling;
        run = subst (λ (c : List Outline). IsLoop c (fresh (roots r) task.me task.seed) task.me (server_locators r) task.ids.now task.turns moments calls ends last) compiled.1
            (subst (λ (s : State). IsLoop servers s task.me (server_locators r) task.ids.now task.turns moments calls ends last) begun
            (subst (λ (l : List Locator). IsLoop servers start task.me l task.ids.now task.turns moments calls ends last) are run));
        answers = λ apart. right r compiled starts at_me (subst (λ (l : List Locator). lists l task.me ≡ false) (sym are) apart);
        replies = λ apart. owed r compiled starts at_me (subst (λ (l : List Locator). lists l task.me ≡ false) (sym are) apart);
        unresolved = unresolved;
      }
