-- From what lookups do to the lines that tell them.
use Rattle.std.proofs.Common.{◌≡◌, ◌≢◌, ℕ, zero, suc, ◌+◌, ◌<◌, ◌≤◌, Bor, map, take, unwrap_or, option_map, if◌then◌else◌, is_ok, IfOk, OnOk, Bool, true, false, List, [], ◌∷◌, ◌++◌, length, get_or, drop, codes, Option, Some, None, Result, Ok, Err, refl, sym, ap, subst, ◌∙◌, arith}
use Rattle.std.specs.Prelude.{◌&&◌}
use Rattle.std.specs.List.{All, flat_map}
use Rattle.std.specs.declared.alloc.AllocError.{AllocError}
use Rattle.std.proofs.Math.Numerals.{suc-eq-add-one}
use Rattle.std.specs.FinMap.{get, get-empty}
use Rattle.std.specs.Ordering.{nat_cmp}
use Rattle.std.proofs.lemmas.List.{get_or-map, length-map, map_push, take_all, take_more}
use Rattle.ddt_path.specs.declared.locator.Locator.{Locator}
use Rattle.ddt_path.specs.declared.xeid.Xeid.{Xeid}
use Rattle.ddt_path.specs.declared.record.Outcome.{Outcome}
use Rattle.ddt_path.specs.Path.{xeid_path}
use Rattle.ddt_text.specs.FirstFault.{xeid_in}
use Rattle.ddt_register.specs.declared.register.Register.{Register}
use Rattle.ddt_check.specs.Assignment.{assignment}
use Rattle.ddt_check.specs.Rules.{IsAccepted}
use Rattle.ddt_check.specs.Says.{says}
use Rattle.ddt_check.specs.Zones.{roots}
use Rattle.ddt_wire.specs.laws.Statements.{MessagesAreRead}
use Rattle.ddt_wire.specs.Referral.{Message, message_in, message_of}
use Rattle.ddt_resolver.specs.declared.results.Why.{Why}
use Rattle.ddt_resolver.specs.State.{State, fresh}
use Rattle.ddt_sim.specs.declared.lookup_result.Hop.{Hop}
use Rattle.ddt_sim.specs.declared.lookup_result.LookupError.{LookupError}
use Rattle.ddt_sim.specs.declared.lookup_result.LookupError.TheVariants.{GaveUp, TooMany, Memory}
use Rattle.ddt_sim.specs.Headline.{IsHonestHop, IsRightError}
use Rattle.ddt_sim.specs.Lookup.{Fails, HasOutcome}
use Rattle.ddt_sim.specs.Schedules.{StartsSound}
use Rattle.ddt_sim.specs.Sound.{IsSound, NewResolversAreSound}
use Rattle.ddt_lines.specs.Lines.{ended, hop_text, outcome_text}
use Rattle.ddt_commands.proofs.Texts.{texts}
use Rattle.ddt_commands.specs.declared.lines.Lines.{Lines}
use Rattle.ddt_commands.specs.CommandLine.Call.{Call}
use Rattle.ddt_commands.specs.declared.refusal.bad_word.WordRefusal.{WordRefusal}
use Rattle.ddt_commands.specs.Commands.Assign.{identifier_refusal}
use Rattle.ddt_commands.specs.Commands.Lookup.{AreAllTold, AreTold, CallsForLookups, IsLookupText, none, more, IsLookupTold, outcome, gave_up, refused, bad_identifier, end_text, read_line, replied_line, said_line, why_text}

-- ---- the lines of one lookup

-- the line of a hop over honest servers, as its reply spells it, is what the register says
replied_said : MessagesAreRead → (r : Register) (x : Xeid) (me_ : Locator) (hop : Hop) → IsHonestHop r x me_ hop → replied_line hop ≡ said_line r x hop
replied_said laws r x me_ hop (nonce, sent, spells) = ap (read_line hop.to) (laws.read hop.reply (message_of nonce (says r hop.to (xeid_path x))) spells)

replied_all : MessagesAreRead → (r : Register) (x : Xeid) (me_ : Locator) (hops : List Hop) → All (IsHonestHop r x me_) hops → flat_map replied_line hops ≡ flat_map (said_line r x) hops
replied_all laws r x me_ [] all = refl
replied_all laws r x me_ (hop ∷ hops) all =
    let first = replied_said laws r x me_ hop (all 0 hop (omega arith)) in
    let others = replied_all laws r x me_ hops (λ k d lt. all (suc k) d (omega arith)) in
    rw (first, others) refl

pub told_outcome : MessagesAreRead → (r : Register) (now : ℕ) (x : Xeid) (before after : State) (me_ : Locator) (o : Outcome) (hops : List Hop) (lines : List ℕ)
    → HasOutcome now x before o hops after → o ≡ assignment r (xeid_path x) → All (IsHonestHop r x me_) hops
    → lines ≡ flat_map replied_line hops ++ ended (outcome_text o) → IsLookupTold r now x before true lines after
told_outcome laws r now x before after me_ o hops lines has right honest is =
    outcome hops (subst (λ (a : Outcome). HasOutcome now x before a hops after) right has) refl
    (is ∙ rw (replied_all laws r x me_ hops honest, right) refl)

-- the same where an error says so, and its words were shown
pub told_unfound : (r : Register) (now : ℕ) (x : Xeid) (before after : State) (error : LookupError) (shown : List ℕ) (result : Result Lines AllocError)
    → Fails now x before error after → IsRightError before after error → error ≢ Memory → shown ≡ end_text error
    → IfOk result (λ lines. lines.text.items ≡ ended shown) → IfOk result (λ lines. lines.complete ≡ false)
    → IfOk result (λ lines. IsLookupTold r now x before lines.complete lines.text.items after)
told_unfound r now x before after (GaveUp why) shown (Ok lines) fails (exhausted, last) known is text complete =
    rw complete (gave_up (subst (λ (w : Why). Fails now x before (GaveUp w) after) exhausted fails) last refl
    (text ∙ ap ended is ∙ ap (λ (w : Why). ended (codes "gave-up " ++ why_text w)) exhausted))
told_unfound r now x before after TooMany shown (Ok lines) fails right known is text complete = rw complete (refused fails right refl (text ∙ ap ended is))
told_unfound r now x before after Memory shown (Ok lines) fails right known is text complete = absurd (known refl)
told_unfound r now x before after error shown (Err refused_) fails right known is text complete = tt

-- ---- what a hop appends

pub read_as : (bytes : List ℕ) (hop : Hop) (v : Message) → Ok v ≡ message_in bytes → bytes ≡ hop.reply → ended (hop_text hop.to v) ≡ replied_line hop
read_as bytes hop v e is = ap (read_line hop.to) (e ∙ ap message_in is)

pub push_replied : {T E : Type 0} (r : Result T E) (new old line : List ℕ) (hop : Hop) → new ≡ (if is_ok r then old ++ line else old) → line ≡ replied_line hop
    → OnOk r (new ≡ old ++ replied_line hop)
push_replied (Ok u) new old line hop e is = e ∙ ap (λ (t : List ℕ). old ++ t) is
push_replied (Err f) new old line hop e is = tt

-- ---- the words of the identifiers

-- a good word is passed, and a bad one is the first
passed_next : (words : List (Bor (List ℕ))) (i : ℕ) (d : Bor (List ℕ)) (x : Xeid) → i < length words → xeid_in (get_or words i d).now ≡ Ok x
    → bad_identifier (drop i (texts words)) ≡ bad_identifier (drop (suc i) (texts words))
passed_next [] i d x lt good = absurd (omega arith)
passed_next (w ∷ ws) zero d x lt good = rw good refl
passed_next (w ∷ ws) (suc i) d x lt good = passed_next ws i d x (omega arith) good

pub passed : (words : List (Bor (List ℕ))) (i : ℕ) (d : Bor (List ℕ)) (x : Xeid) → i < length words → xeid_in (get_or words i d).now ≡ Ok x
    → bad_identifier (drop i (texts words)) ≡ bad_identifier (drop (i + 1) (texts words))
passed words i d x lt good = passed_next words i d x lt good ∙ ap (λ (n : ℕ). bad_identifier (drop n (texts words))) (suc-eq-add-one i)

pub first_bad : (words : List (Bor (List ℕ))) (i : ℕ) (d : Bor (List ℕ)) (why : WordRefusal) → i < length words → identifier_refusal (xeid_in (get_or words i d).now) ≡ Some why
    → bad_identifier (drop i (texts words)) ≡ Some why
first_bad [] i d why lt bad = absurd (omega arith)
first_bad (w ∷ ws) zero d why lt bad = rw bad refl
first_bad (w ∷ ws) (suc i) d why lt bad = first_bad ws i d why (omega arith) bad

pub one_more : (words : List (Bor (List ℕ))) (i : ℕ) (d : Bor (List ℕ)) → i < length words → take i (texts words) ++ (get_or words i d).now ∷ [] ≡ take (i + 1) (texts words)
one_more words i d lt =
    ap (λ (w : List ℕ). take i (texts words) ++ w ∷ []) (sym (get_or-map (λ (t : Bor (List ℕ)). t.now) words i d d.now lt))
    ∙ sym (take_more (texts words) i d.now (rw (length-map words (λ (t : Bor (List ℕ)). t.now)) lt))

-- the identifiers of the words so far, while there is memory
pub spelled_more : (words : List (Bor (List ℕ))) (i : ℕ) (d : Bor (List ℕ)) (x : Xeid) (room fits : Bool) (ids new : List Xeid) → i < length words
    → (room ≡ true → map xeid_in (take i (texts words)) ≡ map Ok ids) → xeid_in (get_or words i d).now ≡ Ok x → new ≡ (if fits then ids ++ x ∷ [] else ids)
    → (room && fits) ≡ true → map xeid_in (take (i + 1) (texts words)) ≡ map Ok new
spelled_more words i d x true true ids new lt so_far good is both =
    ap (map xeid_in) (sym (one_more words i d lt)) ∙ map_push xeid_in (take i (texts words)) (get_or words i d).now ∙ (λ k. so_far refl k ++ good k ∷ [])
    ∙ sym (map_push Ok ids x) ∙ ap (map Ok) (sym is)
spelled_more words i d x true false ids new lt so_far good is both = absurd (cc both)
spelled_more words i d x false fits ids new lt so_far good is both = absurd (cc both)

-- ---- lookups one after the other

pub told_none : (r : Register) (now : ℕ) (start : State) (complete : Bool) (text : List ℕ) → complete ≡ true → text ≡ [] → AreTold r now start [] complete text start
told_none r now start complete text c t = rw (c, t) none

pub told_more : (r : Register) (now : ℕ) (start : State) (ids : List Xeid) (i : ℕ) (d : Xeid) (complete found : Bool) (text lines new : List ℕ)
    (before after : State) → i < length ids
    → AreTold r now start (take i ids) complete text before → IsLookupTold r now (get_or ids i d) before found lines after → new ≡ text ++ lines
    → AreTold r now start (take (i + 1) ids) (complete && found) new after
told_more r now start ids i d complete found text lines new before after lt told one is =
    rw (is, take_more ids i d lt) (more (get_or ids i d) found lines after told one)

pub told_all : (r : Register) (now time : ℕ) (start : State) (ids : List Xeid) (i : ℕ) (complete : Bool) (text : List ℕ) (after : State) → now ≡ time
    → length ids ≤ i
    → AreTold r now start (take i ids) complete text after → AreTold r time start ids complete text after
told_all r now time start ids i complete text after is all told = rw (sym is) (rw (take_all i ids all) at told)

pub told_text : (call : Call) (r : Register) (ids : List Xeid) (me_ : Locator) (seed : ℕ) (found : List Locator) (start : State) (complete : Bool)
    (text : List ℕ) → CallsForLookups call ids me_ seed
    → found ≡ roots r → start ≡ fresh found me_ seed → AreAllTold r start.known.time start ids complete text → IsLookupText complete call r text
told_text call r ids me_ seed found start complete text asks at_root new told = record {
  ids = ids;
  me_ = me_;
  seed = seed;
  asks = asks;
  told = subst (λ (s : State). AreAllTold r s.known.time s ids complete text) (new ∙ ap (λ (l : List Locator). fresh l me_ seed) at_root) told;
}

pub sound_start : NewResolversAreSound → (r : Register) (me_ : Locator) (seed : ℕ) (found : List Locator) (start : State) → found ≡ roots r → start ≡ fresh found me_ seed → IsSound r start
sound_start law r me_ seed found start at_root new =
    subst (IsSound r) (sym (new ∙ ap (λ (l : List Locator). fresh l me_ seed) at_root)) (law r me_ seed)

-- a new resolver over the servers of an accepted register
pub starts_sound : NewResolversAreSound → (r : Register) (me_ : Locator) (seed : ℕ) (found : List Locator) (start : State) → found ≡ roots r → start ≡ fresh found me_ seed → IsAccepted r
    → StartsSound r start
starts_sound law r me_ seed found start at_root new accepted = record {
  accepted = accepted;
  sound = sound_start law r me_ seed found start at_root new;
  at_rest = λ ticket. ap (λ (s : State). get s.pending ticket) new ∙ get-empty nat_cmp ticket;
}

-- the words of the identifiers, as they are borrowed
pub values_are : (o : Option (Bor (List (Bor (List ℕ))))) (d u : Bor (List (Bor (List ℕ)))) (v : Option (List (List ℕ))) → u ≡ unwrap_or o d
    → option_map (λ s. texts s.now) o ≡ v → texts d.now ≡ [] → texts u.now ≡ unwrap_or v []
values_are None d u v is e none_ = ap (λ (b : Bor (List (Bor (List ℕ)))). texts b.now) is ∙ none_ ∙ ap (λ (a : Option (List (List ℕ))). unwrap_or a []) e
values_are (Some s) d u v is e none_ = ap (λ (b : Bor (List (Bor (List ℕ)))). texts b.now) is ∙ ap (λ (a : Option (List (List ℕ))). unwrap_or a []) e
