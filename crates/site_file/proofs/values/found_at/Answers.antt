use Rattle.toml.proofs.Views.{table_get}
use Rattle.site_file.proofs.values.found_at.Goals as goal

pub returns : goal.returns
returns c =
    let entries = c.args.table.now.entries in
    rw (← c.text.ensures) (table_get c.get.result c.text.result.now entries c.get.ensures.value)
