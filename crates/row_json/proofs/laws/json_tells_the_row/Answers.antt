use Rattle.row_json.proofs.ToldAlike.{told_alike}
use Rattle.row_json.proofs.laws.json_tells_the_row.Goals as goal

pub returns : goal.returns
returns c = told_alike
