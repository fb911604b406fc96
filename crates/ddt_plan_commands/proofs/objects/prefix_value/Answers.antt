use Rattle.ddt_text.specs.laws.Ascii.{utf8_prefix}
use Rattle.ddt_plan_commands.proofs.objects.prefix_value.Goals as goal

pub string_value-requires : goal.string_value-requires
string_value-requires c = rw (c.in_ok-write_prefix.ensures.appended, c.new-text.ensures.items) (utf8_prefix c.args.prefix (c.form-form.result, c.form-form.ensures.path, c.form-form.ensures.kept))
