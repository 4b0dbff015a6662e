-- What a link in memory is made of.
use Rattle.gj_base.specs.declared.memory_link.MemoryLink.{MemoryLink}
use Rattle.gj_base.specs.declared.memory_sink.MemorySink.{MemorySink}
use Rattle.gj_base.specs.declared.memory_source.MemorySource.{MemorySource}

-- its reading side
abbrev pub source_of : MemoryLink → MemorySource
source_of l = l.source

-- its writing side
abbrev pub sink_of : MemoryLink → MemorySink
sink_of l = l.sink
