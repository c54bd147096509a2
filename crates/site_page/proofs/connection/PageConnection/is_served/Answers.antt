use Rattle.http_server.proofs.Theorems.{always_served}
use Rattle.site_page.proofs.connection.PageConnection.is_served.Goals as goal

pub returns : goal.returns
returns c = always_served c.args.self.now.connection
