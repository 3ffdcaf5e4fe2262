use Rattle.std.proofs.Common.{◌≡◌, map, take}
use Rattle.nova_rowwise.specs.Seen.{plain_of}
use Rattle.nova_rowwise.proofs.source.copied.Given as goal

abbrev pub invariant-loop-field : goal.invariant-loop-field
invariant-loop-field l = map plain_of l.out.items ≡ map plain_of (take l.field-index l.fields)
