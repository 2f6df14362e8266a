-- The files of `flp`: a batch of reports and a job file, from numbers and pieces up to whole files.
-- the lengths of the parts of a record
pub mod Shape
-- faults that are tried in one order
pub mod Fault
-- letters, numbers and the circuit text, with which both kinds of files begin
pub mod Head
-- bytes cut into pieces, and the order of nonces
pub mod Pieces
-- words as they stand in a file
pub mod Words
-- the parts of a record
pub mod Record
-- the buckets of records, and the first fault among them
pub mod Buckets
-- the batch of both versions, up to the first fault of a whole file
pub mod Batch
-- room for records
pub mod Segment
-- how many bytes a reading takes
pub mod Reads
-- a list of nonces
pub mod Nonces
-- what a reader has read, of either kind and of a batch
pub mod Reader
-- what the writers append
pub mod Layout
-- a report as it is written and read again
pub mod Report
-- the job file, up to the first fault of a whole file
pub mod Job
-- the parts of a job
pub mod JobParts
-- what a reader of a job file has been given
pub mod JobReader
