-- What was appended and what is still to come are all fields.
use Rattle.std.proofs.Common.{◌≡◌, ◌++◌, drop}
use Rattle.fuse_requests.specs.Layout.{fields_text}
use Rattle.fuse_requests.specs.Fields.{fields_of}
use Rattle.fuse_requests.proofs.fields.push_fields.Given as goal

abbrev pub invariant-loop-field : goal.invariant-loop-field
invariant-loop-field l = l.out.items ++ fields_text (fields_of (drop l.field-index l.fields)) ≡ l.fn.out.items ++ fields_text (fields_of l.fields)
