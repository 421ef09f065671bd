pub mod HostLogs
