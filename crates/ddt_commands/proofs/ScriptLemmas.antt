-- Which steps the lines of a script spell.
use Rattle.std.proofs.lemmas.Fmt.{decimal_injective}
use Rattle.std.proofs.Common.{◌≡◌, ℕ, suc, ◌+◌, ◌^◌, ◌<◌, List, [], ◌∷◌, ◌++◌, map, length, take, drop, get_or, codes, decimal, Option, Some, None, Result, Err, Bor, refl, sym, ap, ◌∙◌, subst, arith}
use Rattle.std.specs.Prelude.{MatchOption}
use Rattle.std.specs.Iterator.{Yields}
use Rattle.std.proofs.Math.Seq.{drop-cons}
use Rattle.std.proofs.lemmas.Iterator.{YieldsList}
use Rattle.std.proofs.lemmas.Iterator.Consumers.{YieldsList-end, YieldsList-so_far, YieldsList-turn}
use Rattle.std.proofs.lemmas.List.{take-append-drop}
use Rattle.ddt_path.specs.declared.xeid.Xeid.{Xeid}
use Rattle.ddt_text.specs.FirstFault.{number_in}
use Rattle.ddt_text.specs.Grammar.{SpellsXeid}
use Rattle.ddt_text.specs.laws.Readers.{xeids_are_read}
use Rattle.ddt_text.specs.laws.Number.{number_in-sound, number_in-complete}
use Rattle.ddt_sim.specs.declared.schedule.Step.{Step}
use Rattle.ddt_sim.specs.declared.schedule.Step.TheVariants.{Ask, Deliver, Pass, Tick, Replace}
use Rattle.ddt_commands.proofs.Texts.{texts}
use Rattle.ddt_commands.specs.declared.commands.replay.script.ScriptFault.{ScriptFault}
use Rattle.ddt_commands.specs.declared.commands.replay.script.ScriptFault.TheVariants.{Line}
use Rattle.ddt_commands.specs.Commands.Script.{IsRefusedAt, ScriptsAreClear, SpellSteps, SpellsStep, lines_in}

-- ---- one line

abbrev as_refusal : {T : Type 0} → ScriptFault → Result T ScriptFault
as_refusal fault = Err fault

-- the number that a refusal names is that of its line
pub one_line : {T : Type 0} (a b : ℕ) (fault : ScriptFault) → fault ≡ Line a → as_refusal {T = T} fault ≡ as_refusal (Line b) → a ≡ b
one_line a b fault is refused = cc

-- lines that begin with different letters differ
letters : (a b : ℕ) (xs ys line : List ℕ) → line ≡ a ∷ xs → line ≡ b ∷ ys → a ≡ b
letters a b xs ys line e f = ap (λ (l : List ℕ). get_or l 0 0) (sym e ∙ f)

-- a line that begins with the word of a step spells such a step alone
only_ask : (line text : List ℕ) → line ≡ codes "ask " ++ text → (s : Step) → SpellsStep line s → (x : Xeid) × (s ≡ Ask x) × SpellsXeid text x
only_ask line text is (Ask x) h = (x, refl, subst (λ (t : List ℕ). SpellsXeid t x) (ap (drop 4) (sym h.1 ∙ is)) h.2)
only_ask line text is (Deliver k) h = absurd (omega (arith, letters 97 100 _ _ line is h.0))
only_ask line text is (Pass k) h = absurd (omega (arith, letters 97 119 _ _ line is h.0))
only_ask line text is Tick h = absurd (omega (arith, letters 97 116 _ _ line is h))
only_ask line text is (Replace k) h = absurd (omega (arith, letters 97 114 _ _ line is h.0))

pub only_deliver : (line text : List ℕ) → line ≡ codes "deliver " ++ text → (s : Step) → SpellsStep line s
    → (k : ℕ) × (s ≡ Deliver k) × (text ≡ decimal k) × (k < 2 ^ 32)
only_deliver line text is (Ask x) h = absurd (omega (arith, letters 100 97 _ _ line is h.1))
only_deliver line text is (Deliver k) h = (k, refl, ap (drop 8) (sym is ∙ h.0), h.1)
only_deliver line text is (Pass k) h = absurd (omega (arith, letters 100 119 _ _ line is h.0))
only_deliver line text is Tick h = absurd (omega (arith, letters 100 116 _ _ line is h))
only_deliver line text is (Replace k) h = absurd (omega (arith, letters 100 114 _ _ line is h.0))

pub only_wait : (line text : List ℕ) → line ≡ codes "wait " ++ text → (s : Step) → SpellsStep line s
    → (k : ℕ) × (s ≡ Pass k) × (text ≡ decimal k) × (k < 2 ^ 32)
only_wait line text is (Ask x) h = absurd (omega (arith, letters 119 97 _ _ line is h.1))
only_wait line text is (Deliver k) h = absurd (omega (arith, letters 119 100 _ _ line is h.0))
only_wait line text is (Pass k) h = (k, refl, ap (drop 5) (sym is ∙ h.0), h.1)
only_wait line text is Tick h = absurd (omega (arith, letters 119 116 _ _ line is h))
only_wait line text is (Replace k) h = absurd (omega (arith, letters 119 114 _ _ line is h.0))

pub only_replace : (line text : List ℕ) → line ≡ codes "replace " ++ text → (s : Step) → SpellsStep line s
    → (k : ℕ) × (s ≡ Replace k) × (text ≡ decimal k) × (k < 2 ^ 32)
only_replace line text is (Ask x) h = absurd (omega (arith, letters 114 97 _ _ line is h.1))
only_replace line text is (Deliver k) h = absurd (omega (arith, letters 114 100 _ _ line is h.0))
only_replace line text is (Pass k) h = absurd (omega (arith, letters 114 119 _ _ line is h.0))
only_replace line text is Tick h = absurd (omega (arith, letters 114 116 _ _ line is h))
only_replace line text is (Replace k) h = (k, refl, ap (drop 8) (sym is ∙ h.0), h.1)

only_tick : (line : List ℕ) → line ≡ codes "tick" → (s : Step) → SpellsStep line s → s ≡ Tick
only_tick line is (Ask x) h = absurd (omega (arith, letters 116 97 _ _ line is h.1))
only_tick line is (Deliver k) h = absurd (omega (arith, letters 116 100 _ _ line is h.0))
only_tick line is (Pass k) h = absurd (omega (arith, letters 116 119 _ _ line is h.0))
only_tick line is Tick h = refl
only_tick line is (Replace k) h = absurd (omega (arith, letters 116 114 _ _ line is h.0))

pub ask_step : (line text : List ℕ) (r : Option Step) → line ≡ codes "ask " ++ text → MatchOption r ((x : Xeid) → ¬ (SpellsXeid text x)) (λ s. (x : Xeid) × SpellsXeid text x × (s ≡ Ask x))
    → MatchOption r ((s : Step) → ¬ (SpellsStep line s)) (λ s. SpellsStep line s)
ask_step line text None is none = λ s h. let a = only_ask line text is s h in none a.0 a.2
ask_step line text (Some s) is some = subst (SpellsStep line) (sym some.2) (text, is, some.1)

-- text that is no number is that of no step
pub not_number : (text : List ℕ) (s : Step) (of_number : ℕ → Step) → None ≡ number_in 4294967295 text
    → (k : ℕ) × (s ≡ of_number k) × (text ≡ decimal k) × (k < 2 ^ 32) → ⊥
not_number text s of_number none (k, made, is, fits) =
    let both : ◌≡◌ {A = Option ℕ} None (Some k) = none ∙ ap (number_in 4294967295) is ∙ number_in-complete 4294967295 k (omega arith) (omega arith) in
    cc

-- a number behind a word
pub number_after_word : (line text word : List ℕ) (k : ℕ) → line ≡ word ++ text → Some k ≡ number_in 4294967295 text → (line ≡ word ++ decimal k) × (k < 2 ^ 32)
number_after_word line text word k is some =
    let h = number_in-sound 4294967295 text k (omega arith) (sym some) in
    (is ∙ ap (λ (t : List ℕ). word ++ t) h.1, omega (arith, h.0))

-- ---- the lines of a script

pub steps_more : (lines : List (List ℕ)) (steps : List Step) (line : List ℕ) (s : Step) → SpellSteps lines steps → SpellsStep line s → SpellSteps (lines ++ line ∷ []) (steps ++ s ∷ [])
steps_more [] [] line s h k = (k, tt)
steps_more [] (t ∷ ts) line s h k = absurd h
steps_more (l ∷ ls) [] line s h k = absurd h
steps_more (l ∷ ls) (t ∷ ts) line s h k = (h.0, steps_more ls ts line s h.1 k)

steps_count : (lines : List (List ℕ)) (steps : List Step) → SpellSteps lines steps → length lines ≡ length steps
steps_count [] [] h = refl
steps_count [] (t ∷ ts) h = absurd h
steps_count (l ∷ ls) [] h = absurd h
steps_count (l ∷ ls) (t ∷ ts) h = ap suc (steps_count ls ts h.1)

map_more : (xs : List (Bor (List ℕ))) (x : Bor (List ℕ)) → texts (xs ++ x ∷ []) ≡ texts xs ++ x.now ∷ []
map_more [] x = refl
map_more (y ∷ ys) x = ap (λ (l : List (List ℕ)). y.now ∷ l) (map_more ys x)

pub read_more : (read : List (Bor (List ℕ))) (line : Bor (List ℕ)) (old new : List Step) (s : Step) → SpellSteps (texts read) old → SpellsStep line.now s → new ≡ old ++ s ∷ [] → SpellSteps (texts (read ++ line ∷ [])) new
read_more read line old new s h k is =
    subst (λ (ls : List (List ℕ)). SpellSteps ls new) (sym (map_more read line))
    (subst (SpellSteps (texts read ++ line.now ∷ [])) (sym is) (steps_more (texts read) old line.now s h k))

cut_here : (lines : List (List ℕ)) (i : ℕ) (line : List ℕ) → i < length lines → line ≡ get_or lines i line → lines ≡ take i lines ++ line ∷ drop (suc i) lines
cut_here lines i line lt is =
    sym (take-append-drop i lines) ∙ ap (λ (l : List (List ℕ)). take i lines ++ l) (drop-cons lines i line lt ∙ ap (λ (l : List ℕ). l ∷ drop (suc i) lines) (sym is))

pub refused_here : (text : List ℕ) (read : List (Bor (List ℕ))) (steps : List Step) (line : List ℕ) (number : ℕ) → SpellSteps (texts read) steps
    → texts read ≡ take (length read) (lines_in text) → (length read < length (lines_in text)) × (line ≡ get_or (lines_in text) (length read) line)
    → ((s : Step) → ¬ (SpellsStep line s)) → number ≡ length steps + 1 → IsRefusedAt text number
refused_here text read steps line number spelled so_far (lt, is) none counted = record {
  front = texts read;
  line = line;
  back = drop (suc (length read)) (lines_in text);
  steps = steps;
  lines_are = cut_here (lines_in text) (length read) line lt is ∙ ap (λ (l : List (List ℕ)). l ++ line ∷ drop (suc (length read)) (lines_in text)) (sym so_far);
  before = spelled;
  here = none;
  counted = counted ∙ ap (λ (n : ℕ). n + 1) (sym (steps_count (texts read) steps spelled));
}

-- ---- how far a loop over the lines has come

pub turned : {S A B : Type 0} {steps : S → Option A → S → Type 0} {s : S} (xs : List A) (t : S) (y : Yields steps s xs t) (r : Option A) (u : S) (x : A) → r ≡ Some x → steps t r u
    → (v : A → B) (all : List B) → YieldsList steps v s all → (map v xs ≡ take (length xs) all) × ((length xs < length all) × (v x ≡ get_or all (length xs) (v x)))
turned xs t y r u x is next v all road = (YieldsList-so_far road xs t y, YieldsList-turn road xs t y r u x is next)

pub ended : {S A B : Type 0} {steps : S → Option A → S → Type 0} {s : S} (xs : List A) (t : S) (y : Yields steps s xs t) (r : Option A) (u : S) → r ≡ None → steps t r u
    → (v : A → B) (all : List B) → YieldsList steps v s all → map v xs ≡ all
ended xs t y r u is next v all road = (YieldsList-end road xs t y r u is next).0

-- ---- one reading at most

number_once : (m n : ℕ) → m < 2 ^ 32 → n < 2 ^ 32 → decimal m ≡ decimal n → m ≡ n
number_once m n fits small e = decimal_injective m n (omega arith) (omega arith) e

step_once : (line : List ℕ) (a b : Step) → SpellsStep line a → SpellsStep line b → a ≡ b
step_once line (Ask x) b h k =
    let o = only_ask line h.0 h.1 b k in
    ap Ask (xeids_are_read.one h.0 x o.0 h.2 o.2) ∙ sym o.1
step_once line (Deliver m) b h k =
    let o = only_deliver line (decimal m) h.0 b k in
    ap Deliver (number_once m o.0 h.1 o.3 o.2) ∙ sym o.1
step_once line (Pass m) b h k =
    let o = only_wait line (decimal m) h.0 b k in
    ap Pass (number_once m o.0 h.1 o.3 o.2) ∙ sym o.1
step_once line Tick b h k = sym (only_tick line h b k)
step_once line (Replace m) b h k =
    let o = only_replace line (decimal m) h.0 b k in
    ap Replace (number_once m o.0 h.1 o.3 o.2) ∙ sym o.1

steps_once : (lines : List (List ℕ)) (a b : List Step) → SpellSteps lines a → SpellSteps lines b → a ≡ b
steps_once [] [] [] h k = refl
steps_once [] [] (t ∷ b) h k = absurd k
steps_once [] (s ∷ a) b h k = absurd h
steps_once (l ∷ ls) [] b h k = absurd h
steps_once (l ∷ ls) (s ∷ a) [] h k = absurd k
steps_once (l ∷ ls) (s ∷ a) (t ∷ b) h k =
    let one = step_once l s t h.0 k.0 in
    let others = steps_once ls a b h.1 k.1 in
    cc

some_step : (front : List (List ℕ)) (line : List ℕ) (back : List (List ℕ)) (steps : List Step) → SpellSteps (front ++ line ∷ back) steps → (s : Step) × SpellsStep line s
some_step [] line back [] h = absurd h
some_step [] line back (s ∷ ss) h = (s, h.0)
some_step (f ∷ fs) line back [] h = absurd h
some_step (f ∷ fs) line back (s ∷ ss) h = some_step fs line back ss h.1

abbrev IsNone : List ℕ → Type 0
IsNone line = (s : Step) → ¬ (SpellsStep line s)

one_place : (f g : List (List ℕ)) (l k : List ℕ) (b c : List (List ℕ)) (ss ts : List Step) → f ++ l ∷ b ≡ g ++ k ∷ c → SpellSteps f ss → SpellSteps g ts → IsNone l → IsNone k → length f ≡ length g
one_place [] [] l k b c ss ts e h i bad worse = refl
one_place [] (y ∷ g) l k b c ss [] e h i bad worse = absurd i
one_place [] (y ∷ g) l k b c ss (t ∷ ts) e h i bad worse =
    let same : l ≡ y = cc in
    absurd (bad t (subst (λ (x : List ℕ). SpellsStep x t) (sym same) i.0))
one_place (x ∷ f) [] l k b c [] ts e h i bad worse = absurd h
one_place (x ∷ f) [] l k b c (s ∷ ss) ts e h i bad worse =
    let same : x ≡ k = cc in
    absurd (worse s (subst (λ (y : List ℕ). SpellsStep y s) same h.0))
one_place (x ∷ f) (y ∷ g) l k b c [] ts e h i bad worse = absurd h
one_place (x ∷ f) (y ∷ g) l k b c (s ∷ ss) [] e h i bad worse = absurd i
one_place (x ∷ f) (y ∷ g) l k b c (s ∷ ss) (t ∷ ts) e h i bad worse =
    let rest : f ++ l ∷ b ≡ g ++ k ∷ c = cc in
    ap suc (one_place f g l k b c ss ts rest h.1 i.1 bad worse)

pub scripts_are_clear : ScriptsAreClear
scripts_are_clear = record {
  one = λ text a b h k. steps_once (lines_in text) a b h k;
  apart = λ text steps number h refused.
      let s = some_step refused.front refused.line refused.back steps (subst (λ (ls : List (List ℕ)). SpellSteps ls steps) refused.lines_are h) in
      refused.here s.0 s.1;
  first = λ text m n a b.
      a.counted ∙ ap (λ (k : ℕ). k + 1) (one_place a.front b.front a.line b.line a.back b.back a.steps b.steps (sym a.lines_are ∙ b.lines_are) a.before b.before a.here b.here) ∙ sym b.counted;
}
