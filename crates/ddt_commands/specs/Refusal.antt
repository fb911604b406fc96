-- The text of a refusal; None for those that show a fault, whose text is the fault's own.
use Rattle.std.specs.Prelude.{ℕ, ◌≡◌, ◌⊎◌, List, ◌++◌, Option, None, Some, codes, decimal, IfSome}
use Rattle.std.specs.declared.io.ErrorKind.{ErrorKind}
use Rattle.std.specs.declared.io.ErrorKind.TheVariants as kind
use Rattle.ddt_text.specs.Written.{written_locator}
use Rattle.ddt_lines.specs.Lines.{ended}
use Rattle.ddt_register.specs.declared.fault.ReadFault.{ReadFault}
use Rattle.ddt_register.specs.declared.fault.ReadFault.TheVariants.{Memory, Read}
use Rattle.ddt_commands.specs.declared.refusal.Refusal.{Refusal}
use Rattle.ddt_commands.specs.declared.refusal.Refusal.TheVariants.{BadWord, NoRegister, NoScript, NoServer, NoMessage, OutOfMemory}
use Rattle.ddt_commands.specs.declared.refusal.bad_word.WordRefusal.{WordRefusal}
use Rattle.ddt_commands.specs.declared.refusal.bad_word.WordRefusal.TheVariants.{Identifier, Address, Number}
use Rattle.ddt_commands.specs.declared.refusal.register_file.RegisterRefusal.{RegisterRefusal}
use Rattle.ddt_commands.specs.declared.refusal.register_file.RegisterRefusal.TheVariants.{CannotOpen, Unreadable, CannotRead, BreaksRule, NoSuchGroup, OtherRoots}
use Rattle.ddt_commands.specs.declared.refusal.script.ScriptRefusal.{ScriptRefusal}
use Rattle.ddt_commands.specs.declared.refusal.script.ScriptRefusal.TheVariants as script
use Rattle.ddt_commands.specs.declared.refusal.server.ServerRefusal.{ServerRefusal}
use Rattle.ddt_commands.specs.declared.refusal.server.ServerRefusal.TheVariants as server
use Rattle.ddt_commands.specs.declared.refusal.message.MessageRefusal.{MessageRefusal}
use Rattle.ddt_commands.specs.declared.refusal.message.MessageRefusal.TheVariants.{NotHex, UnknownMessage, NoReply, NoReferral, NoRequest}

-- The text for a word that is no address or no number; none for one that is no identifier, where it shows the fault.
abbrev pub word_refusal_text : WordRefusal → Option (List ℕ)
word_refusal_text (Identifier fault) = None
word_refusal_text Address = Some (codes "bad address")
word_refusal_text Number = Some (codes "bad number")

-- The text for a register that can't be opened or read, that lacks the group, or whose root locators aren't those of
-- the first; none where it shows a fault of the bytes or a broken rule.
abbrev pub register_refusal_text : RegisterRefusal → Option (List ℕ)
register_refusal_text (CannotOpen path) = Some (codes "cannot open " ++ path.now)
register_refusal_text (Unreadable fault) = None
register_refusal_text CannotRead = Some (codes "unreadable 8 Read")
register_refusal_text (BreaksRule fault) = None
register_refusal_text NoSuchGroup = Some (codes "no such group")
register_refusal_text (OtherRoots path) = Some (codes "other root locators " ++ path.now)

-- The text for a script: its path where it can't be opened or read, else the number of the first line that spells no
-- step. Lines count from 1, and empty ones don't count.
abbrev pub script_refusal_text : ScriptRefusal → Option (List ℕ)
script_refusal_text (script.CannotOpen path) = Some (codes "cannot open " ++ path.now)
script_refusal_text (script.RefusedLine number) = Some (codes "script refused line " ++ decimal number)

-- The text for an address outside 127.0.0.0/8, a file that can't be opened or read, or a locator where no socket can be
-- bound; none for a bad configuration, where it shows the fault.
abbrev pub server_refusal_text : ServerRefusal → Option (List ℕ)
server_refusal_text (server.NotLoopback at) = Some (codes "not a loopback address " ++ written_locator at)
server_refusal_text (server.CannotOpen path) = Some (codes "cannot open " ++ path.now)
server_refusal_text (server.BadConfig fault) = None
server_refusal_text (server.CannotBind at) = Some (codes "cannot bind " ++ written_locator at)

-- The text for a word that is no hexadecimal, or bytes of no type that `show` knows; none for bytes of a known type,
-- where it shows their fault.
abbrev pub message_refusal_text : MessageRefusal → Option (List ℕ)
message_refusal_text NotHex = Some (codes "refused hex")
message_refusal_text UnknownMessage = Some (codes "refused unknown message")
message_refusal_text (NoReply fault) = None
message_refusal_text (NoReferral fault) = None
message_refusal_text (NoRequest fault) = None

-- The text for whatever is refused, without the line feed that ends its line.
abbrev pub refusal_text : Refusal → Option (List ℕ)
refusal_text (BadWord why) = word_refusal_text why
refusal_text (NoRegister why) = register_refusal_text why
refusal_text (NoScript why) = script_refusal_text why
refusal_text (NoServer why) = server_refusal_text why
refusal_text (NoMessage why) = message_refusal_text why
refusal_text OutOfMemory = Some (codes "out of memory")

-- what is refused where reading a register ends in this fault
abbrev pub reading_refusal : ReadFault → Refusal
reading_refusal Memory = OutOfMemory
reading_refusal Read = NoRegister CannotRead
reading_refusal fault = NoRegister (Unreadable fault)

-- what is refused where reading an open file ends in an error of this kind, and `unread` is its refusal
abbrev pub file_refusal : ErrorKind → Refusal → Refusal
file_refusal kind.OutOfMemory unread = OutOfMemory
file_refusal _ unread = unread

-- The text is the refusal's line. Of a refusal whose text hangs on a fault's own this says nothing.
abbrev pub IsLineOf : Refusal → List ℕ → Type 0
IsLineOf why text = IfSome (refusal_text why) (λ line. text ≡ ended line)

-- the refusal's line, or that memory ran out where none is left for it
abbrev pub IsRefusalTold : Refusal → List ℕ → Type 0
IsRefusalTold why text = IsLineOf why text ⊎ (text ≡ ended (codes "out of memory"))
