-- takes and drops (`Chunk::take_part`, `write_all`, the sources over memory)
pub mod Bytes
-- what is shown is a front of what was written (`write_all`, `MemSink`, `WriteSink`)
pub mod Showing
-- what the lines of bytes are (`lines_are_cut_at_feeds`)
pub mod Cutting
-- bytes that move to the line that is gathered (`gather`)
pub mod Reading
-- from the line that was gathered to the answer (`LineReader::next`)
pub mod Answering
-- each name of a map is found (`MemStore::list`)
pub mod Naming
