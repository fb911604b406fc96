-- What a command over a register prints, and why it refuses, over the file that its path opens.
use Rattle.std.specs.Prelude.{ℕ, Bool, true, ◌≡◌, ◌≢◌, ◌⊎◌, List, codes, Option, None, Some}
use Rattle.ddt_register.specs.declared.register.Register.{Register}
use Rattle.ddt_check.specs.Rules.{IsAccepted}
use Rattle.ddt_commands.specs.CommandLine.Call.{Call, value}
use Rattle.ddt_commands.specs.declared.refusal.Refusal.{Refusal}
use Rattle.ddt_commands.specs.declared.refusal.Refusal.TheVariants.{BadWord}
use Rattle.ddt_commands.specs.declared.refusal.bad_word.WordRefusal.{WordRefusal}
use Rattle.ddt_commands.specs.Ends.{Prints, prints}
use Rattle.ddt_commands.specs.Register.{IsWhyNoRegister, Spell, HasBytes}

-- the path of the register of a call
abbrev pub path : Call → List ℕ
path call = value (codes "register") call

-- The path was opened, and this is so of an accepted register. Where the file tells its bytes, they spell it.
abbrev pub OfItsRegister : {F : Type 0} → (F → Option (List ℕ)) → Option F → (Register → Type 0) → Type 0
OfItsRegister remaining source is_so =
    (source ≢ None)
    × ((r : Register) × IsAccepted r × ((bytes : List ℕ) → HasBytes remaining source bytes → Spell bytes r) × is_so r)

-- the words are good, and the path may give this source, of which this is so
abbrev pub OpensTo : {F : Type 0} → (List ℕ → Option F → Type 0) → Option WordRefusal → Call → (Option F → Type 0)
    → Type 0
OpensTo opens bad call is_so = (bad ≡ None) × ((source : Option _) × opens (path call) source × is_so source)

-- a text of this kind, which is complete
abbrev pub whole : (Call → Register → List ℕ → Type 0) → Bool → Call → Register → List ℕ → Type 0
whole answers complete call r text = (complete ≡ true) × answers call r text

-- what a command over a register answers, which answers such a text of a register
abbrev pub IsTextOver : {F : Type 0} → (List ℕ → Option F → Type 0) → (F → Option (List ℕ))
    → (Call → Option WordRefusal) → (Call → Register → List ℕ → Type 0) → Call → List ℕ → Type 0
IsTextOver opens remaining bad answers call text =
    OpensTo opens (bad call) call (λ source. OfItsRegister remaining source (λ r. answers call r text))

-- why it refuses: its first bad word; the file or its register; what it refuses of a register
abbrev pub IsWhyOver : {F : Type 0} → (List ℕ → Option F → Type 0) → (F → Option (List ℕ))
    → (Call → Option WordRefusal) → (Call → Register → Refusal → Type 0) → Call → Refusal → Type 0
IsWhyOver opens remaining bad refuses call why =
    ((w : WordRefusal) × (bad call ≡ Some w) × (why ≡ BadWord w))
    ⊎ OpensTo opens (bad call) call (λ source. IsWhyNoRegister remaining source (path call) why
    ⊎ OfItsRegister remaining source (λ r. refuses call r why))

-- what such a command prints of a call
abbrev pub prints_over : {F : Type 0} → (List ℕ → Option F → Type 0) → (F → Option (List ℕ))
    → (Call → Option WordRefusal) → (Bool → Call → Register → List ℕ → Type 0)
    → (Call → Register → Refusal → Type 0) → Call → Prints
prints_over opens remaining bad answers refuses call =
    prints (λ complete text. IsTextOver opens remaining bad (answers complete) call text)
    (λ why. IsWhyOver opens remaining bad refuses call why)
