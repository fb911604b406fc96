-- Nine slots, of which the first eight are kept where an ETR is put among those that are used.
use Rattle.std.proofs.Common.{◌≡◌, ℕ, ◌+◌, ◌<◌, ◌≤◌, List, [], ◌∷◌, ◌++◌, length, take, drop, min, set, sym, ap, ◌∙◌, arith, inl, inr}
use Rattle.std.specs.Prelude.{insert}
use Rattle.std.proofs.Math.Nat.{eq-or-lt_of_le}
use Rattle.std.proofs.lemmas.List.{length-drop, length-take-le, set_split, take_all, take-take, take-append-drop, take-append-le}
use Rattle.std.proofs.lemmas.List.Edits.{length-insert, insert-append_left}
use Rattle.ddt_foreign.specs.declared.order.Ranked.{Ranked}
use Rattle.ddt_registrar.proofs.CarryLemmas.{no_items}

set_last : (slots : List Ranked) (one : Ranked) → length slots ≡ 9 → set slots 8 one ≡ take 8 slots ++ one ∷ []
set_last slots one nine =
    let within : 8 < length slots = omega arith in
    let none : length (drop 9 slots) ≡ 0 = omega (arith, length-drop 9 slots) in
    set_split slots 8 one within ∙ ap (λ (after : List Ranked). take 8 slots ++ one ∷ after) (no_items (drop 9 slots) none)

eight_of : (n : ℕ) (ranked : List Ranked) → length ranked ≡ n + 1 → n ≤ 8 → take (min (n + 1) 8) ranked ≡ take 8 ranked
eight_of n ranked long few =
    elim (eq-or-lt_of_le few) [
      | inl full ↦ ap (λ (k : ℕ). take (min (k + 1) 8) ranked) full
      | inr left ↦
          let all : min (n + 1) 8 ≡ n + 1 = omega (arith, left) in
          ap (λ (k : ℕ). take k ranked) all ∙ take_all (n + 1) ranked (omega (arith, long)) ∙ sym (take_all 8 ranked (omega (arith, long, left)))
    ]

-- Of nine slots, of which these are used: where the last is moved to a place among them, the first eight are those of the
-- list with one more.
pub kept_eight : (slots moved : List Ranked) (n at : ℕ) (one : Ranked) → length slots ≡ 9 → n ≤ 8 → at ≤ n
    → ((front : List Ranked) (last : Ranked) → set slots 8 one ≡ front ++ last ∷ [] → moved ≡ insert front at last)
    → take (min (n + 1) 8) moved ≡ take 8 (insert (take n slots) at one)
kept_eight slots moved n at one nine few inside is =
    let front : List Ranked = take 8 slots in
    let used : List Ranked = take n front in
    let same : used ≡ take n slots = take-take n 8 slots few in
    let eight : length front ≡ 8 = length-take-le 8 slots (omega (arith, nine)) in
    let long : length used ≡ n = length-take-le n front (omega (arith, eight, few)) in
    let more : length (insert used at one) ≡ n + 1 = omega (arith, length-insert used at one (omega (arith, long, inside)), long) in
    let whole : moved ≡ insert used at one ++ drop n front =
    is front one (set_last slots one nine)
    ∙ ap (λ (etrs : List Ranked). insert etrs at one) (sym (take-append-drop n front))
    ∙ insert-append_left used (drop n front) at one (omega (arith, long, inside)) in
    let under : min (n + 1) 8 ≤ length (insert used at one) = omega (arith, more) in
    ap (take (min (n + 1) 8)) whole
    ∙ take-append-le (min (n + 1) 8) (insert used at one) (drop n front) under
    ∙ eight_of n (insert used at one) more few
    ∙ ap (λ (etrs : List Ranked). take 8 (insert etrs at one)) same
