use Rattle.std.proofs.Common.{◌∙◌, ap, refl, Bor, List, ℕ}
use Rattle.ddt_register.proofs.FieldLemmas.{field-unwrapped}
use Rattle.csv.specs.Records.{fields_of}
use Rattle.ddt_register.proofs.csv_row.field.Goals as goal

pub returns : goal.returns
returns c = ap (λ (r : Bor (List ℕ)). r.now) c.unwrap_or.ensures ∙ field-unwrapped (fields_of c.args.fields.now) c.args.place c.get.result _ refl c.get.ensures.value
