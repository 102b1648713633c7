use Rattle.std.proofs.Common.{◌≡◌, ℕ, List, ◌∙◌, ap, subst}
use Rattle.core_index.specs.Records.{ShowsBody}
use Rattle.core_index.specs.Lives.{entry_version, entry_home, Lives, body_in}
use Rattle.core_index.proofs.LiveLaws.{shows_valued}
use Rattle.core_index.proofs.live_list.LiveList.look.Goals as goal

pub returns-in_default : goal.returns-in_default
returns-in_default c =
    let a = c.args.self.now in
    let x = c.args.live.now in
    let bytes : c.deref.result.now ≡ a.bytes = c.deref.ensures.value ∙ ap (λ (l : Lives). l.bytes) c.self.view_is in
    let shows : ShowsBody (body_in a.bytes x.held) c.show.result = subst (λ (b : List ℕ). ShowsBody (body_in b x.held) c.show.result) bytes c.show.ensures in
    shows_valued x.fate (entry_version x) (entry_home x) (body_in a.bytes x.held) c.show.result c.in_default.not-Moved shows
