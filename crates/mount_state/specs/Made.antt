-- What came of making an object of a name, whatever request was to make it: the entry of its new node, or the error.
use Rattle.std.specs.Prelude.{ℕ, List, None, Result, Ok, Err}
use Rattle.fuse_replies.specs.Errno.{eexist, eio}
use Rattle.fuse_replies.specs.declared.reply.EntryOut.{EntryOut}
use Rattle.mount_model.specs.declared.config.Config.{Config}
use Rattle.mount_rules.specs.Attributes.{entry_of}
use Rattle.mount_rules.specs.Making.{Made, new, exists, fault}
use Rattle.mount_rules.specs.Mount.{NodeTable}
use Rattle.mount_rules.specs.Showing.{new_node}

abbrev pub entry_or_errno : Config → NodeTable → List ℕ → ℕ → Made → Result EntryOut ℕ
entry_or_errno config table path moment (new meta) = Ok (entry_of config table.next (new_node path meta moment) None)
entry_or_errno config table path moment exists = Err eexist
entry_or_errno config table path moment fault = Err eio
