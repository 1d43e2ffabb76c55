-- What a `NodeWriter` has written.
use Rattle.std.specs.Prelude.{◌<◌, ◌≤◌, ◌^◌, length}
use Rattle.cfgx_parser.specs.nodes.Node.{Written}
use Rattle.cfgx_parser.specs.declared.nodes.writer.NodeWriter.{NodeWriter}

abbrev pub written_of : {A : Type 0} → NodeWriter A → Written
written_of w = record { nodes = w.nodes.items; waiting = w.waiting.items; places = w.places.items }

-- no node is lost, and if the number of nodes did fit in a `usize`, it still does
abbrev pub KeepsNodes : Written → Written → Type 0
KeepsNodes old new = (length old.nodes ≤ length new.nodes)
    × (length old.nodes < 2 ^ 64 → length new.nodes < 2 ^ 64)
