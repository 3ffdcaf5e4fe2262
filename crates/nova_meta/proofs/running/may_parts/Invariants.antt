use Rattle.std.proofs.Common.{◌≡◌, ◌+◌, drop}
use Rattle.nova_meta.specs.Catalog.{may_parts}
use Rattle.nova_meta.proofs.running.may_parts.Given as goal

abbrev pub invariant-loop-part : goal.invariant-loop-part
invariant-loop-part l = record {
  rest : may_parts l.least l.next (drop l.part-index l.parts) ≡ may_parts 0 l.block l.parts;
  next : l.next ≡ l.block + l.part-index;
}
