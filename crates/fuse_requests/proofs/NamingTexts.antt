-- Each request that carries names is read back from the text of its body.
use Rattle.std.proofs.Common.{◌≡◌, ◌<◌, ◌^◌, ℕ, List, [], ◌++◌, Ok, refl, ap, ◌∙◌}
use Rattle.fuse_head.specs.Little.{u32_at, u64_at}
use Rattle.fuse_requests.specs.declared.request.Request.TheVariants.{Lookup, Symlink, Mknod, Mkdir, Unlink, Rmdir, Rename, Create, Rename2}
use Rattle.fuse_requests.specs.Layout.{read_body}
use Rattle.fuse_requests.specs.Naming.{lookup, symlink, mknod, mknod_in, mkdir, mkdir_in, unlink, rmdir, rename, rename_in, create, create_in, rename2, rename2_in}
use Rattle.fuse_requests.specs.Text.{IsName, name_text, body_text}
use Rattle.fuse_requests.proofs.FieldTexts.{word_of, long_of, two}
use Rattle.fuse_requests.proofs.BodyTexts.{named-text, twice_named-text}

pub lookup-text : (node : ℕ) (name : List ℕ) → IsName name → read_body (lookup node) (body_text (Lookup node name)) ≡ Ok (Lookup node name)
lookup-text node name is = named-text [] name (λ (body name : List ℕ). Lookup node name) is

pub symlink-text : (node : ℕ) (name target : List ℕ) → IsName name → IsName target → read_body (symlink node) (body_text (Symlink node name target)) ≡ Ok (Symlink node name target)
symlink-text node name target is target_is = twice_named-text [] name target (λ (body name target : List ℕ). Symlink node name target) is target_is

pub mknod-text : (node mode : ℕ) (name : List ℕ) → IsName name → mode < 2 ^ 32 → read_body (mknod node) (body_text (Mknod node mode name)) ≡ Ok (Mknod node mode name)
mknod-text node mode name is fits =
    let fields = mknod_in mode in
    named-text fields name (λ (body name : List ℕ). Mknod node (u32_at body 0) name) is
    ∙ ap (λ (mode : ℕ). Ok (Mknod node mode name)) (word_of fields 0 mode (name_text name) refl fits)

pub mkdir-text : (node : ℕ) (name : List ℕ) → IsName name → read_body (mkdir node) (body_text (Mkdir node name)) ≡ Ok (Mkdir node name)
mkdir-text node name is = named-text mkdir_in name (λ (body name : List ℕ). Mkdir node name) is

pub unlink-text : (node : ℕ) (name : List ℕ) → IsName name → read_body (unlink node) (body_text (Unlink node name)) ≡ Ok (Unlink node name)
unlink-text node name is = named-text [] name (λ (body name : List ℕ). Unlink node name) is

pub rmdir-text : (node : ℕ) (name : List ℕ) → IsName name → read_body (rmdir node) (body_text (Rmdir node name)) ≡ Ok (Rmdir node name)
rmdir-text node name is = named-text [] name (λ (body name : List ℕ). Rmdir node name) is

pub rename-text : (node newdir : ℕ) (name newname : List ℕ) → IsName name → IsName newname → newdir < 2 ^ 64
    → read_body (rename node) (body_text (Rename node newdir name newname)) ≡ Ok (Rename node newdir name newname)
rename-text node newdir name newname is new_is fits =
    let fields = rename_in newdir in
    twice_named-text fields name newname (λ (body name newname : List ℕ). Rename node (u64_at body 0) name newname) is new_is
    ∙ ap (λ (newdir : ℕ). Ok (Rename node newdir name newname)) (long_of fields 0 newdir (name_text name ++ name_text newname) refl fits)

pub create-text : (node : ℕ) (name : List ℕ) → IsName name → read_body (create node) (body_text (Create node name)) ≡ Ok (Create node name)
create-text node name is = named-text create_in name (λ (body name : List ℕ). Create node name) is

pub rename2-text : (node newdir flags : ℕ) (name newname : List ℕ) → IsName name → IsName newname → newdir < 2 ^ 64 → flags < 2 ^ 32
    → read_body (rename2 node) (body_text (Rename2 node newdir flags name newname)) ≡ Ok (Rename2 node newdir flags name newname)
rename2-text node newdir flags name newname is new_is newdir_fits flags_fit =
    let fields = rename2_in newdir flags in
    let tail = name_text name ++ name_text newname in
    twice_named-text fields name newname (λ (body name newname : List ℕ). Rename2 node (u64_at body 0) (u32_at body 8) name newname) is new_is
    ∙ two (λ (newdir flags : ℕ). Ok (Rename2 node newdir flags name newname)) (long_of fields 0 newdir tail refl newdir_fits) (word_of fields 1 flags tail refl flags_fit)
