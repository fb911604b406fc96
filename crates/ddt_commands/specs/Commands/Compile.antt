-- `compile REGISTER GROUP`.
use Rattle.std.specs.Prelude.{ℕ, false, ◌≡◌, ◌⊎◌, List, codes, Ok, None, Some, [], ◌∷◌, Option}
use Rattle.toml.specs.Text.{IsDocumentText}
use Rattle.ddt_path.specs.Names.{is_name}
use Rattle.ddt_register.specs.declared.register.Register.{Register}
use Rattle.ddt_register.specs.declared.group.Group.{Group}
use Rattle.ddt_check.specs.Zones.{group_named}
use Rattle.ddt_config.specs.Table.{Outline, config_in_text}
use Rattle.ddt_config.specs.Writing.{written_config}
use Rattle.ddt_compile.specs.GroupConfig.{group_config}
use Rattle.ddt_commands.specs.CommandLine.Call.{Call, value}
use Rattle.ddt_commands.specs.declared.refusal.Refusal.{Refusal}
use Rattle.ddt_commands.specs.declared.refusal.Refusal.TheVariants.{NoRegister, OutOfMemory}
use Rattle.ddt_commands.specs.declared.refusal.register_file.RegisterRefusal.TheVariants.{NoSuchGroup}
use Rattle.ddt_commands.specs.declared.command_line.declaration.Declaration.{Declaration}
use Rattle.ddt_commands.specs.CommandLine.Line.{one, takes}
use Rattle.ddt_commands.specs.Over.{prints_over, whole}
use Rattle.ddt_commands.specs.Ends.{Prints}
use Rattle.ddt_commands.specs.Commands.Check.{no_bad_word}

-- the group's name in a call
abbrev pub group_of : Call → List ℕ
group_of call = value (codes "group") call

-- the text that `toml` prints of the table of a configuration
abbrev pub IsDocumentOf : Outline → List ℕ → Type 0
IsDocumentOf config text = IsDocumentText false (written_config config) text

-- the document of the configuration of the group of that name, which is read back as it
abbrev pub IsConfigText : Call → Register → List ℕ → Type 0
IsConfigText call r text =
    (g : Group) × (group_named r (group_of call) ≡ Some g) × IsDocumentOf (group_config r g) text
    × (config_in_text text ≡ Ok (group_config r g))

-- the word is no name, or names no group of the register
abbrev pub NamesNoGroup : List ℕ → Register → Type 0
NamesNoGroup name r = (is_name name ≡ false) ⊎ (group_named r name ≡ None)

-- why a register has no answer for a group: none has the name, or memory runs out
abbrev pub IsWhyNoGroup : Call → Register → Refusal → Type 0
IsWhyNoGroup call r why = ((why ≡ NoRegister NoSuchGroup) × NamesNoGroup (group_of call) r) ⊎ (why ≡ OutOfMemory)

-- what `compile` takes
abbrev pub compile_takes : Declaration
compile_takes = takes (codes "compile") (one (codes "register") ∷ one (codes "group") ∷ [])

-- what `compile` prints of a call
abbrev pub compile_prints : {F : Type 0} → (List ℕ → Option F → Type 0) → (F → Option (List ℕ)) → Call → Prints
compile_prints opens remaining call = prints_over opens remaining no_bad_word (whole IsConfigText) IsWhyNoGroup call
