-- A prefix keeps the numbers of its form: of an IPv6 address the two halves.
use Rattle.std.specs.Prelude.{ℕ, ◌+◌, ◌*◌, ◌/◌, ◌%◌, ◌^◌, ◌==◌, if◌then◌else◌}
use Rattle.ddt_path.specs.declared.locator.Locator.TheVariants.{V4, V6}
use Rattle.ddt_path.specs.declared.form.Form.{Form}
use Rattle.ddt_path.specs.declared.form.Form.TheVariants.{Range, Block}
use Rattle.ddt_path.specs.declared.prefix.Prefix.TheInside.{Inside}
use Rattle.ddt_path.specs.FormOrder.{parts_of}

-- The form that the numbers are kept of: a range where the family symbol is 0, else a block.
abbrev pub form_at : Inside → Form
form_at a = if a.family == 0 then Range a.iid a.len else if a.family == 4 then Block a.iid (V4 a.low) a.len
    else Block a.iid (V6 (a.high * 2 ^ 64 + a.low)) a.len

-- The numbers that are kept of the parts of a form.
abbrev pub packed_parts : ℕ × ℕ × ℕ × ℕ → Inside
packed_parts p = record { high = p.2 / 2 ^ 64; low = p.2 % 2 ^ 64; iid = p.0; family = p.1; len = p.3 }

abbrev pub packed : Form → Inside
packed form = packed_parts (parts_of form)
