-- What an opening resumes.
use Rattle.std.proofs.Common.{◌≡◌, sym, ◌∙◌, subst}
use Rattle.gj_base.specs.declared.history.History.{History}
use Rattle.gj_base.specs.declared.history.Shown.{Shown}
use Rattle.gj_base.specs.Configuration.{Configuration}
use Rattle.gj_base.specs.History.{StandsFor, conf_of, window}
use Rattle.gj_keep.specs.Books.{BookView, BookKeeps}
use Rattle.gj_publish.specs.Writers.{Resumes}

-- two histories that one book keeps and one graph stands for
pub resumes_by : (conf : Configuration) (w : Shown) (book : BookView) (g h : History)
    → BookKeeps book g → BookKeeps book h → conf_of w ≡ conf → StandsFor w g → StandsFor w h → Resumes conf g h
resumes_by conf w book g h keeps also is first second =
    let same : window w.capacity w.segments g ≡ window w.capacity w.segments h = sym first ∙ second in
    record {
      same_length = keeps.length_is ∙ sym also.length_is;
      same_window = subst (λ (z : Configuration). window z.capacity z.segments g ≡ window z.capacity z.segments h) is same;
    }
