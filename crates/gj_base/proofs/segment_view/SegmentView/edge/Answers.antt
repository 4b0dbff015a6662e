use Rattle.gj_base.specs.Numbered.{numbered}
use Rattle.gj_base.proofs.MaskedLemmas.{edge_undated}
use Rattle.gj_base.proofs.segment_view.SegmentView.edge.Goals as goal

pub returns : goal.returns
returns g c = edge_undated (numbered (g.Self.SegmentView.listed c.args.self.now)) c.args.side c.args.v c.args.i _ c.dated_edge-end.ensures
