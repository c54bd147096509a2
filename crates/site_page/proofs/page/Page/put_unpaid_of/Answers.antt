use Rattle.std.proofs.Common.{rules}
use Rattle.std.specs.Prelude.{string_bytes}
use Rattle.site_json.specs.Transactions.{unpaid_data}
use Rattle.site_page.proofs.Answering.{json_sent}
use Rattle.site_page.proofs.page.Page.put_unpaid_of.Goals as goal

pub returns-in-Ok : goal.returns-in-Ok
returns-in-Ok c =
    json_sent c.put_json.result (string_bytes c.in-Ok.text) (unpaid_data c.args.point c.args.self.now.unpaid)
    c.put_json.new.response (search rules) c.put_json.ensures
