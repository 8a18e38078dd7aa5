-- A SETATTR that asks nothing changes no file's generation.
use Rattle.std.proofs.Common.{sym, ap, subst}
use Rattle.fuse_requests.specs.declared.request.Request.TheVariants.{Setattr}
use Rattle.mount_rules.specs.Dispatch.{mount_after}
use Rattle.mount_rules.specs.Files.{FilesAreShort}
use Rattle.mount_state.proofs.ShortLaws.{setattr_short}
use Rattle.mount_state.specs.Telling.{ToldList}
use Rattle.mount_state.proofs.tests.set.Goals as goal

pub perform-requires-clause-stays : goal.perform-requires-clause-stays
perform-requires-clause-stays c = λ at held is short.
    let s = c.args.setting.now in
    subst (λ seen. FilesAreShort (mount_after at held (Setattr 2 s.0 s.1 s.2.0 s.2.1) seen)) (sym (ap (λ (told : ToldList). told.items) c.new.ensures)) (setattr_short at held short 2 s.0 s.1 s.2.0 s.2.1)
