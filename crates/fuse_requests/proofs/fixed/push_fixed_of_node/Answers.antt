-- A fixed part as long as SETATTR's is too long for the search.
use Rattle.std.proofs.Common.{◌≡◌, ◌++◌, List, OnOk, subst, sym}
use Rattle.fuse_requests.specs.declared.request.Request.{Request}
use Rattle.fuse_requests.specs.Layout.{Field, fields_text}
use Rattle.fuse_requests.specs.Text.{spelling}
use Rattle.fuse_requests.proofs.fixed.push_fixed_of_node.Goals as goal

pub returns-in-Setattr-clause-ok : goal.returns-in-Setattr-clause-ok
returns-in-Setattr-clause-ok c =
    let Wrote : List Field → Type 0 = λ fields. OnOk c.push_fields-in-Setattr.result (c.push_fields-in-Setattr.new.out.items ≡ c.args.out.now.items ++ fields_text fields) in
    subst (λ (request : Request). Wrote (spelling request).fixed) (sym c.in-Setattr.is) (subst Wrote c.setattr_in.ensures c.push_fields-in-Setattr.ensures.ok)
