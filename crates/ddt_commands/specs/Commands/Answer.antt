-- What the program answers for a group and an identifier: the bytes of the Map-Referral for nonce 1 (RFC 8111, section
-- 6.4).
use Rattle.std.specs.Prelude.{ℕ, ◌≡◌, List, Option, Some, option_map, Ok, [], ◌∷◌, codes}
use Rattle.ddt_register.specs.declared.register.Register.{Register}
use Rattle.ddt_check.specs.Zones.{group_named, first_locator}
use Rattle.ddt_register.specs.declared.group.Group.{Group}
use Rattle.ddt_check.specs.Says.{says}
use Rattle.ddt_config.specs.declared.config.ServerConfig.{ServerConfig}
use Rattle.ddt_config.specs.Table.{outline}
use Rattle.ddt_compile.specs.GroupConfig.{group_config}
use Rattle.ddt_compile.specs.laws.Statements.{IsHonestConfig, HasRoom}
use Rattle.ddt_wire.specs.Referral.{written}
use Rattle.hex.specs.Hex.{encode_lower}
use Rattle.ddt_path.specs.declared.xeid.Xeid.{Xeid}
use Rattle.ddt_path.specs.Path.{xeid_path}
use Rattle.ddt_lines.specs.Lines.{ended}
use Rattle.ddt_commands.specs.CommandLine.Call.{Call}
use Rattle.ddt_commands.specs.declared.command_line.declaration.Declaration.{Declaration}
use Rattle.ddt_commands.specs.CommandLine.Line.{one, takes}
use Rattle.ddt_commands.specs.Over.{prints_over, whole}
use Rattle.ddt_commands.specs.Ends.{Prints}
use Rattle.ddt_commands.specs.Commands.Assign.{bad_xeid, xeid_of}
use Rattle.ddt_commands.specs.Commands.Compile.{IsWhyNoGroup, group_of}

-- The answer of the group of this name; none where no group has the name.
abbrev pub group_answer : Register → List ℕ → List ℕ → Option (List ℕ)
group_answer r name x = option_map (λ g. written 1 (says r (first_locator g.locators) x)) (group_named r name)

-- the configuration of the group of this name: it answers as the register says, and a server has room for it
abbrev pub IsConfigOfGroup : Register → List ℕ → ServerConfig → Type 0
IsConfigOfGroup r name c =
    (g : Group) × (group_named r name ≡ Some g) × (outline c ≡ group_config r g)
    × IsHonestConfig r (outline c) × HasRoom (outline c)

-- `answer REGISTER GROUP XEID`: that answer in hexadecimal, and a line feed
abbrev pub IsAnswerText : Call → Register → List ℕ → Type 0
IsAnswerText call r text =
    (x : Xeid) × (xeid_of call ≡ Ok x)
    × (option_map (λ bytes. ended (encode_lower bytes)) (group_answer r (group_of call) (xeid_path x)) ≡ Some text)

-- what `answer` takes
abbrev pub answer_takes : Declaration
answer_takes = takes (codes "answer") (one (codes "register") ∷ one (codes "group") ∷ one (codes "xeid") ∷ [])

-- what `answer` prints of a call
abbrev pub answer_prints : {F : Type 0} → (List ℕ → Option F → Type 0) → (F → Option (List ℕ)) → Call → Prints
answer_prints opens remaining call = prints_over opens remaining bad_xeid (whole IsAnswerText) IsWhyNoGroup call
