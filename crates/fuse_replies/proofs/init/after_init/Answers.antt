-- Each step takes one group of fields; where one fails, the whole does.
use Rattle.std.proofs.Common.{ℕ, List, ◌++◌, ◌∷◌, [], replicate, None}
use Rattle.fuse_replies.specs.Layouts.{init_text, u16s, u32s}
use Rattle.fuse_replies.proofs.StripLemmas.{strips_behind, strips_none_then, strips_then}
use Rattle.fuse_replies.proofs.init.after_init.Goals as goal

-- the groups of fields
abbrev told : ℕ → ℕ → List ℕ
told readahead flags = u32s (7 ∷ 31 ∷ readahead ∷ flags ∷ [])

abbrev limits : List ℕ
limits = u16s (12 ∷ 9 ∷ [])

abbrev writes : List ℕ
writes = u32s (131072 ∷ 1 ∷ [])

abbrev pages : List ℕ
pages = u16s (0 ∷ 0 ∷ [])

abbrev unused : List ℕ
unused = u32s (replicate 8 0)

-- the text up to a group
abbrev upto_limits : ℕ → ℕ → List ℕ
upto_limits readahead flags = told readahead flags ++ limits

abbrev upto_writes : ℕ → ℕ → List ℕ
upto_writes readahead flags = upto_limits readahead flags ++ writes

abbrev upto_pages : ℕ → ℕ → List ℕ
upto_pages readahead flags = upto_writes readahead flags ++ pages

pub returns-in_err-rest : goal.returns-in_err-rest
unfolding init_text
returns-in_err-rest c =
    rw c.from_residual.ensures (strips_none_then c.args.body.now (upto_pages c.args.readahead c.args.flags) unused (strips_none_then c.args.body.now (upto_writes c.args.readahead c.args.flags) pages (strips_none_then c.args.body.now (upto_limits c.args.readahead c.args.flags) writes (strips_none_then c.args.body.now (told c.args.readahead c.args.flags) limits c.in_err-rest.ensures))))

pub returns-in_err-rest-2 : goal.returns-in_err-rest-2
unfolding init_text
returns-in_err-rest-2 c =
    rw c.from_residual-in_err-rest-2.ensures (strips_none_then c.args.body.now (upto_pages c.args.readahead c.args.flags) unused (strips_none_then c.args.body.now (upto_writes c.args.readahead c.args.flags) pages (strips_none_then c.args.body.now (upto_limits c.args.readahead c.args.flags) writes (strips_behind c.args.body.now (told c.args.readahead c.args.flags) c.in_ok-rest.rest.now limits None c.in_ok-rest.ensures c.in_err-rest-2.ensures))))

pub returns-in_err-rest-3 : goal.returns-in_err-rest-3
unfolding init_text
returns-in_err-rest-3 c =
    rw c.from_residual-in_err-rest-3.ensures (strips_none_then c.args.body.now (upto_pages c.args.readahead c.args.flags) unused (strips_none_then c.args.body.now (upto_writes c.args.readahead c.args.flags) pages (strips_behind c.args.body.now (upto_limits c.args.readahead c.args.flags) c.in_ok-rest-2.rest.now writes None (strips_then c.args.body.now (told c.args.readahead c.args.flags) c.in_ok-rest.rest.now limits c.in_ok-rest-2.rest.now c.in_ok-rest.ensures c.in_ok-rest-2.ensures) c.in_err-rest-3.ensures)))

pub returns-in_err-rest-4 : goal.returns-in_err-rest-4
unfolding init_text
returns-in_err-rest-4 c =
    rw c.from_residual-in_err-rest-4.ensures (strips_none_then c.args.body.now (upto_pages c.args.readahead c.args.flags) unused (strips_behind c.args.body.now (upto_writes c.args.readahead c.args.flags) c.in_ok-rest-3.rest.now pages None (strips_then c.args.body.now (upto_limits c.args.readahead c.args.flags) c.in_ok-rest-2.rest.now writes c.in_ok-rest-3.rest.now (strips_then c.args.body.now (told c.args.readahead c.args.flags) c.in_ok-rest.rest.now limits c.in_ok-rest-2.rest.now c.in_ok-rest.ensures c.in_ok-rest-2.ensures) c.in_ok-rest-3.ensures) c.in_err-rest-4.ensures))

pub returns : goal.returns
unfolding init_text
returns c =
    strips_behind c.args.body.now (upto_pages c.args.readahead c.args.flags) c.in_ok-rest-4.rest.now unused c.strip_u32s-3.result (strips_then c.args.body.now (upto_writes c.args.readahead c.args.flags) c.in_ok-rest-3.rest.now pages c.in_ok-rest-4.rest.now (strips_then c.args.body.now (upto_limits c.args.readahead c.args.flags) c.in_ok-rest-2.rest.now writes c.in_ok-rest-3.rest.now (strips_then c.args.body.now (told c.args.readahead c.args.flags) c.in_ok-rest.rest.now limits c.in_ok-rest-2.rest.now c.in_ok-rest.ensures c.in_ok-rest-2.ensures) c.in_ok-rest-3.ensures) c.in_ok-rest-4.ensures) c.strip_u32s-3.ensures
