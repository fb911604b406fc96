-- The command line, command by command, and a command, argument by argument.
use Rattle.std.proofs.Common.{◌≡◌, ◌&&◌, Bool, true, false, not, List, [], ◌∷◌, refl, sym, rules}
use Rattle.std.specs.List.{fold}
use Rattle.clap.specs.Words.{App, new_app, with_subcommand}
use Rattle.ddt_commands.specs.declared.command_line.declaration.Argument.{Argument}
use Rattle.ddt_commands.specs.declared.command_line.declaration.Declaration.{Declaration}
use Rattle.ddt_commands.specs.CommandLine.Line.{bare_line, command_app, line, with_arguments}

-- arguments leave the command plain
pub plain_arguments : (app : App) (xs : List Argument) → (with_arguments app xs).top.is_plain ≡ app.top.is_plain
plain_arguments app [] = refl
plain_arguments app (x ∷ xs) = plain_arguments _ xs

-- the declaration that stands for a missing one
abbrev pub nothing : Declaration
nothing = record { name = record { ref_ptr = (0, 0); now = [] }; arguments = record { ref_ptr = (0, 0); now = [] } }

pub plain_command : (d : Declaration) → (command_app d).top.is_plain ≡ true
plain_command d = plain_arguments (new_app d.name.now) d.arguments.now

pub not_third : (a b c rest : Bool) → (a && (not b && (not c && rest))) ≡ true → c ≡ false
not_third true false true rest e = sym e
not_third true false false rest e = refl
not_third true true c rest e = search (rules, e)
not_third false b c rest e = search (rules, e)

-- commands leave the line plain, and one is needed
abbrev line_from : App → List Declaration → App
line_from app ds = fold (λ a d. with_subcommand a (command_app d).top) app ds

plain_from : (app : App) (ds : List Declaration) → (line_from app ds).top.is_plain ≡ app.top.is_plain
plain_from app [] = refl
plain_from app (d ∷ ds) = plain_from (with_subcommand app (command_app d).top) ds

needs_from : (app : App) (ds : List Declaration) → (line_from app ds).top.subcommand_required ≡ app.top.subcommand_required
needs_from app [] = refl
needs_from app (d ∷ ds) = needs_from (with_subcommand app (command_app d).top) ds

pub plain_line : (ds : List Declaration) → (line ds).top.is_plain ≡ true
plain_line ds = plain_from bare_line ds

pub needs_command : (ds : List Declaration) → (line ds).top.subcommand_required ≡ true
needs_command ds = needs_from bare_line ds
