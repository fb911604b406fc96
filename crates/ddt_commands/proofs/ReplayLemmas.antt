-- From the events of a run to the lines of its history.
use Rattle.std.proofs.Common.{◌≡◌, ℕ, zero, suc, ◌+◌, ◌<◌, ◌≤◌, List, [], ◌∷◌, ◌++◌, length, map, take, drop, get_or, Bor, Some, None, Option, Ok, Err, inl, inr, refl, sym, ap, ◌∙◌, subst, append_assoc, arith}
use Rattle.std.specs.List.{All, AllByRecursion}
use Rattle.std.specs.Prelude.{slice_get, option_map}
use Rattle.std.proofs.lemmas.Option.{slice_get-get_or, slice_get-map}
use Rattle.std.proofs.lemmas.List.{append-nil, at_drop_all, at_drop_more, length-append, length-map, reverse-append, take_all}
use Rattle.ddt_path.specs.declared.locator.Locator.{Locator}
use Rattle.ddt_resolver.specs.declared.results.Outgoing.{Outgoing}
use Rattle.ddt_resolver.specs.State.{State, fresh}
use Rattle.ddt_resolver.specs.declared.step.Reply.{Reply}
use Rattle.ddt_resolver.specs.declared.step.Reply.TheVariants.{ToAsk, ToDatagram, ToTick}
use Rattle.ddt_sim.specs.declared.schedule.Step.{Step}
use Rattle.ddt_sim.specs.declared.schedule.Event.{Event}
use Rattle.ddt_sim.specs.World.{World, Members, members, at_place, by_reply, by_silence, WorldStep, event_of, request_at, sent_for, resolves, serves, not_sent, passes, replaces, no_member}
use Rattle.ddt_sim.specs.History.{Line, History, IsTranscriptOf, at_start, begin, next, events_of}
use Rattle.ddt_register.specs.declared.register.Register.{Register}
use Rattle.ddt_check.specs.Rules.{IsAccepted}
use Rattle.ddt_check.specs.Zones.{roots}
use Rattle.ddt_config.specs.Table.{Outline}
use Rattle.ddt_sim.specs.declared.schedule.Transcript.{Transcript}
use Rattle.ddt_sim.specs.Compiled.{AreCompiled, configs_of}
use Rattle.ddt_sim.specs.Schedules.{StartsSound, AnswersAreRight, RepliesAreRight, FailuresAreRight}
use Rattle.ddt_sim.specs.InForce.{AreRegisters, AnswersAreSince, AnswersAreOfLate, RepliesAreInForce, FailuresAreInForce, NoRepliesAreInForce, TicketsEndOnceInForce}
use Rattle.ddt_sim.specs.Tries.{NoRepliesAreRight}
use Rattle.ddt_sim.specs.Sound.{NewResolversAreSound}
use Rattle.ddt_lines.specs.Lines.{ended}
use Rattle.ddt_commands.specs.CommandLine.Call.{Call}
use Rattle.ddt_commands.specs.declared.refusal.Refusal.{Refusal}
use Rattle.ddt_commands.specs.Commands.Lookup.{me_of, seed_of}
use Rattle.ddt_commands.specs.Register.{HasBytes, Spell}
use Rattle.ddt_commands.specs.Commands.Script.{SpellsScript}
use Rattle.ddt_commands.specs.declared.refusal.Refusal.TheVariants.{OutOfMemory}
use Rattle.ddt_commands.proofs.OverLemmas.{of_register}
use Rattle.ddt_commands.specs.Commands.Replay.{AreRegistersAt, IsRegisterAt, IsReplayOf, IsRunText, IsWhyNoMore, IsWhyNoScript, IsWhyNotReplayed, bad_replay, datagrams_at, event_text, lines_from, numbered, requests, run_text, servers_of}
use Rattle.ddt_commands.proofs.LookupLemmas.{one_more, starts_sound}
use Rattle.ddt_commands.proofs.Texts.{texts}

-- ---- how many datagrams are sent

sent_of : (me_ : Locator) (request : Option Outgoing) → length (sent_for me_ request) ≡ requests request
sent_of me_ None = refl
sent_of me_ (Some d) = refl

sent_at_reply : (me_ : Locator) (a : Reply) → length (sent_for me_ (request_at (event_of a))) ≡ datagrams_at (event_of a)
sent_at_reply me_ (ToAsk (Ok asked)) = sent_of me_ _
sent_at_reply me_ (ToAsk (Err why)) = refl
sent_at_reply me_ (ToDatagram heard) = sent_of me_ _
sent_at_reply me_ (ToTick ticked) = sent_of me_ _

-- a step adds the datagrams of its event
grows : (servers : Members) (w : World) (step : Step) (event : Event) (new : World) → WorldStep servers w step event new → length new.sent ≡ length w.sent + datagrams_at event
grows servers w step event new (resolves h) =
    rw (h.goes_on, h.tells) (length-append w.sent _ ∙ ap (λ (n : ℕ). length w.sent + n) (sent_at_reply w.state.me h.reply))
grows servers w step event new (serves k more at_ (by_reply d bytes_ is request says told grown) goes_on) =
    rw (goes_on, told) (ap length grown ∙ length-append w.sent _)
grows servers w step event new (serves k more at_ (by_silence d is request says told same) goes_on) = rw (goes_on, told) (ap length same ∙ omega arith)
grows servers w step event new (not_sent k at_ le told goes_on) = rw (goes_on, told) (omega arith)
grows servers w step event new (passes millis at_ told goes_on) = rw (goes_on, told) (omega arith)
grows servers w step event new (replaces k at_ lt told goes_on) = rw (goes_on, told) (omega arith)
grows servers w step event new (no_member k at_ le told goes_on) = rw (goes_on, told) (omega arith)

-- ---- the lines of the events so far

abbrev total : List Event → ℕ
total [] = 0
total (event ∷ events) = datagrams_at event + total events

total_more : (events : List Event) (event : Event) → total (events ++ event ∷ []) ≡ total events + datagrams_at event
total_more [] event = omega arith
total_more (e ∷ es) event = omega (arith, total_more es event)

lines_more : (n : ℕ) (events : List Event) (event : Event) → lines_from n (events ++ event ∷ []) ≡ lines_from n events ++ ended (event_text (n + total events) event)
lines_more n [] event = append-nil _ ∙ ap (λ (k : ℕ). ended (event_text k event)) (omega arith)
lines_more n (e ∷ es) event =
    ap (λ (t : List ℕ). ended (event_text n e) ++ t) (lines_more (n + datagrams_at e) es event)
    ∙ sym (append_assoc (ended (event_text n e)) (lines_from (n + datagrams_at e) es) _)
    ∙ ap (λ (k : ℕ). (ended (event_text n e) ++ lines_from (n + datagrams_at e) es) ++ ended (event_text k event)) (omega arith)

events_more : (line : Line) (past : List Line) → events_of (line ∷ past) ≡ events_of past ++ line.event ∷ []
events_more line past = reverse-append (line.event ∷ []) (map (λ (l : Line). l.event) past)

pub record IsCounted (past : List Line) (w : World) : Type 0 where
  pub sent : length w.sent ≡ total (events_of past)
  pub lines : run_text past ≡ lines_from 0 (events_of past)

pub counted : (servers : Members) (s : State) (past : List Line) (w : World) → History servers (at_start s) past w → IsCounted past w
counted servers s past w begin = record { sent = refl; lines = refl }
counted servers s past w (next {past = before} {w = v} step event h goes) =
    let so_far = counted servers s before v h in
    let line : Line = record { before = v; step = step; event = event; after = w } in
    record {
      sent = grows servers v step event w goes ∙ ap (λ (n : ℕ). n + datagrams_at event) so_far.sent ∙ sym (total_more (events_of before) event) ∙ ap total (sym (events_more line before));
      lines =
          ap (λ (t : List ℕ). t ++ ended (event_text (length v.sent) event)) so_far.lines
          ∙ ap (λ (n : ℕ). lines_from 0 (events_of before) ++ ended (event_text n event)) (so_far.sent ∙ omega arith)
          ∙ sym (lines_more 0 (events_of before) event) ∙ ap (lines_from 0) (sym (events_more line before));
    }

-- one event more is told
pub event_more : (events : List Event) (i n more : ℕ) (e : Event) (old new line : List ℕ) → i < length events → e ≡ get_or events i e → old ++ lines_from n (drop i events) ≡ lines_from 0 events
    → new ≡ old ++ line → line ≡ ended (event_text n e) → more ≡ datagrams_at e → new ++ lines_from (n + more) (drop (i + 1) events) ≡ lines_from 0 events
event_more events i n more e old new line lt is inv grown told count =
    let left = drop (i + 1) events in
    let step : lines_from n (drop i events) ≡ ended (event_text n e) ++ lines_from (n + datagrams_at e) left =
    at_drop_more (lines_from n) events i e lt ∙ ap (λ (v : Event). ended (event_text n v) ++ lines_from (n + datagrams_at v) left) (sym is) in
    ap (λ (t : List ℕ). t ++ lines_from (n + more) left) (grown ∙ ap (λ (t : List ℕ). old ++ t) told)
    ∙ ap (λ (k : ℕ). (old ++ ended (event_text n e)) ++ lines_from (n + k) left) count
    ∙ append_assoc old (ended (event_text n e)) (lines_from (n + datagrams_at e) left)
    ∙ ap (λ (t : List ℕ). old ++ t) (sym step) ∙ inv

pub event_last : (events : List Event) (i n : ℕ) (text : List ℕ) → length events ≤ i → text ++ lines_from n (drop i events) ≡ lines_from 0 events → text ≡ lines_from 0 events
event_last events i n text all inv = sym (append-nil text) ∙ ap (λ (t : List ℕ). text ++ t) (sym (at_drop_all (lines_from n) events i all)) ∙ inv

-- ---- the registers

-- servers that were compiled from accepted registers, at their places
compiled_at : (l : List Register) (d : Register) → AllByRecursion IsAccepted l → (k : ℕ) → k < length l → at_place AreCompiled (map configs_of l) k (get_or l k d)
compiled_at [] d all k lt = absurd (omega (arith, lt))
compiled_at (r ∷ l) d all zero lt = (configs_of r, refl, (all.0, refl))
compiled_at (r ∷ l) d all (suc k) lt = compiled_at l d all.1 k (omega (arith, lt))

module _ (r : Register) (others : List Register) (accepted : AllByRecursion IsAccepted (r ∷ others)) (same : All (λ q. roots q ≡ roots r) others) where
  within : (k : ℕ) → k < length (map configs_of (r ∷ others)) → k < length (r ∷ others)
  within k lt = subst (λ n. k < n) (length-map (r ∷ others) configs_of) lt

  at_number : (k : ℕ) → k < length (map configs_of (r ∷ others)) → at_place AreCompiled (map configs_of (r ∷ others)) k (numbered r others k)
  at_number k lt = compiled_at (r ∷ others) r accepted k (within k lt)

  same_at : (k : ℕ) → k < length (r ∷ others) → roots (numbered r others k) ≡ roots r
  same_at zero lt = refl
  same_at (suc k) lt = same k r (omega (arith, lt))

  pub are_registers : (start : State) → StartsSound r start → AreRegisters (servers_of r others) (numbered r others) start
  are_registers start starts = record {
    accepted = λ k lt. (at_number k lt).2.0;
    honest = at_number;
    silent = at_number;
    same_roots = λ k lt. same_at k (within k lt);
    starts = starts;
  }

-- ---- the run

-- what a call of the run says, over these servers
pub record HasRun (servers : List (List Outline)) (start : State) (steps : List Step) (t : Transcript) (after : State) : Type 0 where
  pub run : (past : List Line) × IsTranscriptOf (members AreCompiled AreCompiled servers) start steps t after past
  pub answers : AnswersAreRight (members AreCompiled AreCompiled servers) start steps t after
  pub replies : RepliesAreRight (members AreCompiled AreCompiled servers) start steps t after
  pub failures : FailuresAreRight (members AreCompiled AreCompiled servers) start steps t after
  pub no_reply : NoRepliesAreRight (members AreCompiled AreCompiled servers) start steps t after
  pub since : AnswersAreSince (members AreCompiled AreCompiled servers) start steps t after
  pub remembered : AnswersAreOfLate (members AreCompiled AreCompiled servers) start steps t after
  pub in_force : RepliesAreInForce (members AreCompiled AreCompiled servers) start steps t after
  pub failing : FailuresAreInForce (members AreCompiled AreCompiled servers) start steps t after
  pub in_vain : NoRepliesAreInForce (members AreCompiled AreCompiled servers) start steps t after
  pub once : TicketsEndOnceInForce (members AreCompiled AreCompiled servers) start steps t after

module _ (law : NewResolversAreSound) (r : Register) (others : List Register) (me_ : Locator) (seed : ℕ) (found : List Locator) (start : State) (at_root : found ≡ roots r) (new : start ≡ fresh found me_ seed)
    (accepted : AllByRecursion IsAccepted (r ∷ others)) (same : All (λ q. roots q ≡ roots r) others) (steps : List Step) (t : Transcript) (after : State) where
  starts : StartsSound r start
  starts = starts_sound law r me_ seed found start at_root new accepted.0

  begun : start ≡ fresh (roots r) me_ seed
  begun = new ∙ ap (λ (l : List Locator). fresh l me_ seed) at_root

  ran : HasRun (map configs_of (r ∷ others)) start steps t after → (text : List ℕ) → text ≡ lines_from 0 t.events → IsRunText r others me_ seed steps text
  ran h text is =
      let past = h.run.0 in
      let tells = h.run.1 in
      let are = are_registers r others accepted same start starts in
      let honest = are.honest 0 (omega arith) in (
        past,
        record {
          transcript = t;
          last = after;
          told = subst (λ (s : State). IsTranscriptOf (servers_of r others) s steps t after past) begun tells;
          of_one = λ keep. record {
            answers = h.answers r honest keep starts past tells;
            replies = h.replies r honest keep starts past tells;
            failures = h.failures r honest keep starts past tells;
            no_reply = h.no_reply r honest keep starts past tells;
          };
          of_some = record {
            answers = h.since (numbered r others) are past tells;
            remembered = h.remembered (numbered r others) are past tells;
            replies = h.in_force (numbered r others) are past tells;
            failures = h.failing (numbered r others) are past tells;
            no_reply = h.in_vain (numbered r others) are past tells;
            once = h.once (numbered r others) are past tells;
          };
        },
        is ∙ ap (lines_from 0) tells.events_are ∙ sym (counted _ start past tells.last tells.history).lines,
      )

  pub told_run : (servers : List (List Outline)) → servers ≡ map configs_of (r ∷ others) → HasRun servers start steps t after → (text : List ℕ) → text ≡ lines_from 0 t.events → IsRunText r others me_ seed steps text
  told_run servers are h = ran (subst (λ l. HasRun l start steps t after) are h)

-- ---- the files

module _ {F : Type 0} (opens : List ℕ → Option F → Type 0) (remaining : F → Option (List ℕ)) where
  -- one register more
  are_more : (paths : List (List ℕ)) (rs : List Register) (path : List ℕ) (r : Register) → AreRegistersAt opens remaining paths rs → IsRegisterAt opens remaining path r → AreRegistersAt opens remaining (paths ++ path ∷ []) (rs ++ r ∷ [])
  are_more [] [] path r h k = (k, tt)
  are_more [] (q ∷ rs) path r h k = absurd h
  are_more (p ∷ paths) [] path r h k = absurd h
  are_more (p ∷ paths) (q ∷ rs) path r h k = (h.0, are_more paths rs path r h.1 k)

  -- as many as there are paths
  pub as_many : (paths : List (List ℕ)) (rs : List Register) → AreRegistersAt opens remaining paths rs → length rs ≡ length paths
  as_many [] [] h = refl
  as_many [] (q ∷ rs) h = absurd h
  as_many (p ∷ paths) [] h = absurd h
  as_many (p ∷ paths) (q ∷ rs) h = ap suc (as_many paths rs h.1)

  pub one_register : (words : List (Bor (List ℕ))) (i : ℕ) (d : Bor (List ℕ)) (rs new : List Register) (r : Register) → i < length words → AreRegistersAt opens remaining (take i (texts words)) rs
      → IsRegisterAt opens remaining (get_or words i d).now r → new ≡ rs ++ r ∷ [] → AreRegistersAt opens remaining (take (i + 1) (texts words)) new
  one_register words i d rs new r lt so_far here grown =
      subst (AreRegistersAt opens remaining (take (i + 1) (texts words))) (sym grown)
      (subst (λ l. AreRegistersAt opens remaining l (rs ++ r ∷ [])) (one_more words i d lt) (are_more (take i (texts words)) rs (get_or words i d).now r so_far here))

  pub all_registers : (words : List (Bor (List ℕ))) (i : ℕ) (rs : List Register) → length words ≤ i → AreRegistersAt opens remaining (take i (texts words)) rs → AreRegistersAt opens remaining (texts words) rs
  all_registers words i rs end h = subst (λ l. AreRegistersAt opens remaining l rs) (take_all i (texts words) (rw (length-map words (λ (t : Bor (List ℕ)). t.now)) end)) h

  -- the path at a place
  pub path_at : (words : List (Bor (List ℕ))) (i : ℕ) (d : Bor (List ℕ)) → i < length words → slice_get (texts words) i ≡ Some (get_or words i d).now
  path_at words i d lt = slice_get-map (λ (t : Bor (List ℕ)). t.now) words i ∙ ap (option_map (λ (t : Bor (List ℕ)). t.now)) (slice_get-get_or words i d lt)

  -- as many words
  pub as_many_words : (words : List (Bor (List ℕ))) (i : ℕ) (rs : List Register) → length words ≤ i → AreRegistersAt opens remaining (take i (texts words)) rs → length rs ≡ length words
  as_many_words words i rs end h = as_many (texts words) rs (all_registers words i rs end h) ∙ length-map words (λ (t : Bor (List ℕ)). t.now)

  -- the script was opened, so memory may have been wanted
  script_memory : (other : Option F) (script : List ℕ) → (other ≡ None → ⊥) → IsWhyNoScript remaining other script OutOfMemory
  script_memory None script opened = absurd (opened refl)
  script_memory (Some file) script opened = tt

  module _ (register script : List ℕ) (more : List (List ℕ)) (source : Option F) (opened : opens register source) (r : Register) (closed : source ≡ None → ⊥) (accepted : IsAccepted r)
      (spelled : (bytes : List ℕ) → HasBytes remaining source bytes → Spell bytes r) (other : Option F) (opened_too : opens script other) (closed_too : other ≡ None → ⊥) where
    pub why_memory : IsWhyNotReplayed opens remaining register script more OutOfMemory
    why_memory = (source, opened, inr (of_register remaining source _ r closed accepted spelled (other, opened_too, inl (script_memory other script closed_too))))

    module _ (steps : List Step) (spells : (bytes : List ℕ) → HasBytes remaining other bytes → SpellsScript bytes steps) where
      pub why_more : (why : Refusal) → IsWhyNoMore opens remaining r more why → IsWhyNotReplayed opens remaining register script more why
      why_more why lacks = (source, opened, inr (of_register remaining source _ r closed accepted spelled (other, opened_too, inr (closed_too, (steps, spells, lacks)))))

      pub text_over : (others : List Register) (me_ : Locator) (seed : ℕ) (text : List ℕ) → AreRegistersAt opens remaining more others → All (λ q. roots q ≡ roots r) others → IsRunText r others me_ seed steps text
          → IsReplayOf opens remaining register script more me_ seed text
      text_over others me_ seed text are same runs = (source, opened, of_register remaining source _ r closed accepted spelled (other, opened_too, (closed_too, (steps, spells, (others, are, same, runs)))))

pub good_words : (call : Call) (me_ : Locator) (seed : ℕ) → me_of call ≡ Ok me_ → seed_of call ≡ Some seed → bad_replay call ≡ None
good_words call me_ seed e f = rw (e, f) refl
