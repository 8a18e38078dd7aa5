-- Where the file isn't kept nothing changes.
use Rattle.std.proofs.Common.{sym, ap, ◌∙◌}
use Rattle.mount_kept.proofs.KeptFilesLaws.{used_absent}
use Rattle.mount_kept.proofs.kept.Kept.copy_bytes.Goals as goal

pub returns-then-not-holds-clause-kept : goal.returns-then-not-holds-clause-kept
returns-then-not-holds-clause-kept c =
    ap (λ files. record { records = c.args.self.now.records; files = record { files = files; blocks = c.args.self.now.files.blocks } })
    (sym (used_absent c.args.self.now.files.files c.args.key.now (sym c.holds.ensures.ok ∙ c.if-not-holds.true)))
