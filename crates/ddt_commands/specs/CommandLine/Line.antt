-- The command line of a program, as `clap` reads it.
use Rattle.std.specs.Prelude.{true, List, codes, Some}
use Rattle.clap.specs.Words.{App, Rule, Text, new_app, new_rule, with_rule, with_subcommand}
use Rattle.std.specs.List.{fold}
use Rattle.std.specs.Borrow.{Bor}
use Rattle.clap.specs.declared.builder.ArgAction.TheVariants.{Set, Append}
use Rattle.ddt_commands.specs.declared.command_line.declaration.Argument.{Argument}
use Rattle.ddt_commands.specs.declared.command_line.declaration.Argument.TheVariants.{One, Several, Any, Setting}
use Rattle.ddt_commands.specs.declared.command_line.declaration.Declaration.{Declaration}

-- a value behind a reference
abbrev lent : {A : Type 0} → A → Bor A
lent x = record { ref_ptr = (0, 0); now = x }

-- an argument of one word, one of several, one of any number, and an option, by their names
abbrev pub one : Text → Argument
one name = One (lent name)

-- one word or more, behind all other arguments
abbrev pub several : Text → Argument
several name = Several (lent name)

-- any number of words, also none, behind all other arguments
abbrev pub any : Text → Argument
any name = Any (lent name)

-- an option that may be left out, as `--NAME VALUE` or `--NAME=VALUE`, at most once
abbrev pub setting : Text → Argument
setting name = Setting (lent name)

-- a command of this name takes these arguments and options
abbrev pub takes : Text → List Argument → Declaration
takes name arguments = record { name = lent name; arguments = lent arguments }

-- an argument or option: whether it must be there, how it is named, and whether it takes several words
abbrev pub rule_of_argument : Argument → Rule
rule_of_argument (One name) = record (new_rule name.now) { required = true; action = Some Set }
rule_of_argument (Several name) = record (new_rule name.now) { required = true; action = Some Append }
rule_of_argument (Any name) = record (new_rule name.now) { action = Some Append }
rule_of_argument (Setting name) = record (new_rule name.now) { long = Some name.now; action = Some Set }

-- a command with so many of its arguments
abbrev pub with_arguments : App → List Argument → App
with_arguments app arguments = fold (λ a one. with_rule a (rule_of_argument one)) app arguments

-- a command with its arguments
abbrev pub command_app : Declaration → App
command_app d = with_arguments (new_app d.name.now) d.arguments.now

-- no flag and no command for help, and a command must be named
abbrev pub bare_line : App
bare_line =
    record (new_app (codes "program")) {
      top = record (new_app (codes "program")).top {
        disable_help_flag = true;
        disable_help_subcommand = true;
        subcommand_required = true;
      };
    }

-- the program with all its commands
abbrev pub line : List Declaration → App
line commands = fold (λ a d. with_subcommand a (command_app d).top) bare_line commands
