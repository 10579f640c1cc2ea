-- `legs::walk::on_path` meets its contract.

use Rattle.legs.proofs.walk.on_path.Goals as goal

pub returns : goal.returns
returns c =
    rw (c.path_status.ensures, c.place_of.ensures, c.path_way.ensures, c.path_kind.ensures)
