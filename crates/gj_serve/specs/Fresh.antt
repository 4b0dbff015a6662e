-- A link in memory of which nothing was taken and to which nothing was written.
use Rattle.std.specs.Prelude.{◌≡◌, []}
use Rattle.gj_base.specs.MemoryLinks.{source_of, sink_of}
use Rattle.gj_base.specs.MemorySinks.{bytes_in}
use Rattle.gj_base.specs.MemoryStreams.{reading_of}
use Rattle.gj_base.specs.declared.memory_link.MemoryLink.{MemoryLink}

abbrev pub IsFreshLink : MemoryLink → Type 0
IsFreshLink l = ((reading_of (source_of l)).taken ≡ []) × (bytes_in (sink_of l) ≡ [])
