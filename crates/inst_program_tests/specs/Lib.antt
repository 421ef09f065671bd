pub mod MemoryLogs
