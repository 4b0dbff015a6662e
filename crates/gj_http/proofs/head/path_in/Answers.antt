use Rattle.gj_http.proofs.HeadLemmas.{IsUtf8-part}
use Rattle.gj_http.proofs.head.path_in.Goals as goal

pub returns-clause-text : goal.returns-clause-text
returns-clause-text c =
    IsUtf8-part c.args.head.now c.args.target.start c.args.target.end c.path_length.result c.of.result.now
    c.of.ensures c.requires.text c.path_length.ensures.within c.path_length.ensures.mark
